use Rattle.std.proofs.Common.{◌∙◌}
use Rattle.std.proofs.lemmas.Result.{err_from_is_err_and}
use Rattle.answer_text.specs.Printable.{printable}
use Rattle.answer_text.proofs.PendingLemmas.{put-number, cut_at-number}
use Rattle.answer_text.proofs.pending.Pending.put_bytes.Goals as goal

pub returns-in_err-put_byte-clause-bytes : goal.returns-in_err-put_byte-clause-bytes
returns-in_err-put_byte-clause-bytes g c =
    let p = err_from_is_err_and c.from_residual.result c.from_residual.ensures.1 in
    rw (p.1) (cut_at-number _ _ _ _ _ printable _ _ c.loop-byte-test.true c.loop-byte.invariant.0
    (rw (← c.printable.ensures) c.in_err-put_byte.ensures.bytes))

pub loop-byte-preserved : goal.loop-byte-preserved
loop-byte-preserved g c = (
  put-number _ _ _ _ _ _ printable _ _ c.loop-byte-test.true c.loop-byte.invariant.0
      (rw (← c.printable.ensures) c.in_ok-put_byte.ensures.bytes),
  c.in_ok-put_byte.ensures.failures ∙ c.loop-byte.invariant.1,
)
