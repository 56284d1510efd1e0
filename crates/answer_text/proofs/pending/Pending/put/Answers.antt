use Rattle.answer_text.proofs.PendingLemmas.{put-fitting, same-buffer, puts-same}
use Rattle.answer_text.proofs.pending.Pending.put.Goals as goal

pub returns-then-push-clause-bytes : goal.returns-then-push-clause-bytes
returns-then-push-clause-bytes g c = put-fitting _ _ _ _ _ c.if-push.true c.push.ensures

pub returns-clause-bytes : goal.returns-clause-bytes
returns-clause-bytes g c =
    puts-same _ _ _ _ _ _ _ (same-buffer _ _ _ _ c.if-push.false c.push.ensures)
    c.put_after_send.ensures.bytes
