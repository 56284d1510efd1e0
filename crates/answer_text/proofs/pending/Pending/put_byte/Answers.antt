use Rattle.answer_text.proofs.PendingLemmas.{put-fitting, same-buffer, puts-same}
use Rattle.answer_text.proofs.pending.Pending.put_byte.Goals as goal

pub returns-then-push_byte-clause-bytes : goal.returns-then-push_byte-clause-bytes
returns-then-push_byte-clause-bytes g c = put-fitting _ _ _ _ _ c.if-push_byte.true
    c.push_byte.ensures

pub returns-clause-bytes : goal.returns-clause-bytes
returns-clause-bytes g c =
    puts-same _ _ _ _ _ _ _ (same-buffer _ _ _ _ c.if-push_byte.false c.push_byte.ensures)
    c.put_after_send.ensures.bytes
