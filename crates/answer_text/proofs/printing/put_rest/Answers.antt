use Rattle.std.proofs.Common.{◌∙◌, sym}
use Rattle.std.proofs.lemmas.Result.{err_from_is_err_and}
use Rattle.answer_text.specs.Text.{later_text}
use Rattle.answer_text.proofs.PrintingLemmas.{put-item, cut-item}
use Rattle.answer_text.proofs.printing.put_rest.Goals as goal

pub loop-frame-preserved : goal.loop-frame-preserved
loop-frame-preserved g c = let so_far = c.loop-frame.invariant.0 in (
  put-item _ _ _ _ _ _ (later_text c.args.options.now) _ so_far.0 _ _ _ so_far.1
      c.in-Some.ensures.steps so_far.2
      c.in_ok-put_later.ensures.bytes,
  c.in_ok-put_later.ensures.failures ∙ c.loop-frame.invariant.1,
)

pub returns-in_err-put_later-clause-bytes : goal.returns-in_err-put_later-clause-bytes
returns-in_err-put_later-clause-bytes g c =
    let p = err_from_is_err_and c.from_residual.result c.from_residual.ensures.1 in
    let so_far = c.loop-frame.invariant.0 in
    rw (p.1) (cut-item _ _ _ _ _ (later_text c.args.options.now) _ so_far.0 _ _ _
    (sym c.into_iter-frame-iterator.ensures.into_iter_gives ∙ so_far.1) c.in-Some.ensures.steps
    so_far.2
    c.in_err-put_later.ensures.bytes)
