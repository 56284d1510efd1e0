use Rattle.std.proofs.Common.{◌∙◌}
use Rattle.std.proofs.lemmas.Result.{err_from_is_err_and}
use Rattle.answer_text.proofs.PendingLemmas.{put-next, cut_at}
use Rattle.answer_text.proofs.pending.Pending.put_all.Goals as goal

pub returns-in_err-put-clause-bytes : goal.returns-in_err-put-clause-bytes
returns-in_err-put-clause-bytes g c =
    let p = err_from_is_err_and c.from_residual.result c.from_residual.ensures.1 in
    rw (p.1) (cut_at _ _ _ _ _ (λ text. text.now) _ _ _ c.loop-text-test.true
    c.loop-text.invariant.0 c.in_err-put.ensures.bytes)

pub loop-text-preserved : goal.loop-text-preserved
loop-text-preserved g c = (
  put-next _ _ _ _ _ _ (λ text. text.now) _ _ _ c.loop-text-test.true c.loop-text.invariant.0
      c.in_ok-put.ensures.bytes,
  c.in_ok-put.ensures.failures ∙ c.loop-text.invariant.1,
)
