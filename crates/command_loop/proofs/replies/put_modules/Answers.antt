use Rattle.std.proofs.Common.{◌∙◌, sym}
use Rattle.std.proofs.lemmas.Result.{err_from_is_err_and}
use Rattle.answer_text.proofs.PrintingLemmas.{put-item, cut-item}
use Rattle.command_loop.specs.Text.{module_text}
use Rattle.command_loop.proofs.replies.put_modules.Goals as goal

pub loop-item-preserved : goal.loop-item-preserved
loop-item-preserved g c = let so_far = c.loop-item.invariant.0 in (
  put-item _ _ _ _ _ _ module_text _ so_far.0 _ _ _ so_far.1 c.in-Some.ensures.steps so_far.2
      c.in_ok-put_module.ensures.bytes,
  c.in_ok-put_module.ensures.failures ∙ c.loop-item.invariant.1,
)

pub returns-in_err-put_module-clause-bytes : goal.returns-in_err-put_module-clause-bytes
returns-in_err-put_module-clause-bytes g c =
    let p = err_from_is_err_and c.from_residual.result c.from_residual.ensures.1 in
    let so_far = c.loop-item.invariant.0 in
    rw (p.1) (cut-item _ _ _ _ _ module_text _ so_far.0 _ _ _
    (sym c.into_iter-item-iterator.ensures.into_iter_gives ∙ so_far.1) c.in-Some.ensures.steps
    so_far.2
    c.in_err-put_module.ensures.bytes)
