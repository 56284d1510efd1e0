use Rattle.std.proofs.Common.{◌∙◌, refl}
use Rattle.std.proofs.lemmas.Result.{err_from_is_err_and}
use Rattle.command_loop.proofs.PieceLemmas.{served-none, cut_at-feed, no-feed, serves-line}
use Rattle.command_loop.proofs.PieceLemmas.{breaks-at-line, serves-rest}
use Rattle.command_loop.proofs.input.Session.take_piece.Goals as goal

pub lines-init : goal.lines-init
lines-init g c = (served-none _ _ _ _, refl)

pub lines-preserved : goal.lines-preserved
lines-preserved g c = (
  serves-line _ _ _ _ _ _ _ _ _ _ (cut_at-feed _ _ _ c.in-Some.is c.find_byte.ensures)
      c.lines.invariant.0
      c.in_ok-end_line_with.ensures.goes_on,
  c.in_ok-end_line_with.ensures.failures ∙ c.lines.invariant.1,
)

pub returns-in_err-end_line_with-clause-breaks : goal.returns-in_err-end_line_with-clause-breaks
returns-in_err-end_line_with-clause-breaks g c =
    let p =
    err_from_is_err_and c.from_residual.result c.from_residual.ensures.1 in rw (p.1)
    (breaks-at-line _ _ _ _ _ _ _ _ _ _ (cut_at-feed _ _ _ c.in-Some.is c.find_byte.ensures)
    c.lines.invariant.0
    c.in_err-end_line_with.ensures.breaks)

pub returns-clause-goes_on : goal.returns-clause-goes_on
returns-clause-goes_on g c =
    rw c.extend.ensures (serves-rest _ _ _ _ _ _ _
    (no-feed _ _ c.in_default.is c.find_byte.ensures) c.lines.invariant.0)
