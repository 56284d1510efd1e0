use Rattle.std.proofs.Common.{◌≤◌, ◌∙◌, sym, refl, length, take, length-take, arith}
use Rattle.command_loop.proofs.InputLemmas.{failures-at-ok, on_err_at, on_ok_at, reads-nothing}
use Rattle.command_loop.proofs.InputLemmas.{reads-on, reads-and-breaks, reads-no_more}
use Rattle.command_loop.proofs.InputLemmas.{ends-well, ends-badly}
use Rattle.command_loop.proofs.input.serve_input.Goals as goal

pub pieces-init : goal.pieces-init
pieces-init g c = (reads-nothing _ _ _ _ _ refl refl refl c.new.ensures, refl, refl, refl)

pub pieces-preserved : goal.pieces-preserved
pieces-preserved g c = (
  reads-on _ _ _ _ _ _ _ _ _ _ c.pieces.invariant.0 c.in-Ok.ensures.bytes.0
      (on_ok_at _ (sym c.if-is_err.ensures.value) c.take_piece.ensures.goes_on),
  c.read.auto.buf ∙ c.pieces.invariant.1,
  c.in-Ok.ensures.failures ∙ c.pieces.invariant.2,
  c.take_piece.ensures.failures ∙ failures-at-ok _ _ (sym c.if-is_err.ensures.value)
      ∙ c.pieces.invariant.3,
)

pub returns-then-is_err-clause-reads : goal.returns-then-is_err-clause-reads
returns-then-is_err-clause-reads g c =
    let fits : length (take c.in-Ok.count c.read.new.buf) ≤ 4096 =
    omega (
      arith,
      length-take c.in-Ok.count c.read.new.buf,
      c.read.auto.buf,
      c.pieces.invariant.1,
    ) in
    reads-and-breaks _ _ _ _ _ _ _ _ _ _ c.pieces.invariant.0 c.in-Ok.ensures.bytes.0 fits
    (on_err_at _ (sym c.if-is_err.ensures.value) c.take_piece.ensures.breaks)

pub returns-then-is_err-2-clause-reads : goal.returns-then-is_err-2-clause-reads
returns-then-is_err-2-clause-reads g c = ends-badly _ _ _ _ _ _ _ _
    (reads-no_more _ _ _ _ _ _ _ _ _ c.if-count-eq0.true c.pieces.invariant.0
    c.in-Ok.ensures.bytes.0)
    (c.in-Ok.ensures.bytes.1 c.if-count-eq0.true
    (omega (arith, c.read.auto.buf, c.pieces.invariant.1)))
    (on_err_at _ (sym c.if-is_err-2.ensures.value) c.end_line.ensures.breaks)

pub returns-clause-reads : goal.returns-clause-reads
returns-clause-reads g c = ends-well _ _ _ _ _ _ _ _
    (reads-no_more _ _ _ _ _ _ _ _ _ c.if-count-eq0.true c.pieces.invariant.0
    c.in-Ok.ensures.bytes.0)
    (c.in-Ok.ensures.bytes.1 c.if-count-eq0.true
    (omega (arith, c.read.auto.buf, c.pieces.invariant.1)))
    (on_ok_at _ (sym c.if-is_err-2.ensures.value) c.end_line.ensures.goes_on)
