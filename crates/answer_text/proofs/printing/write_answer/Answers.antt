use Rattle.answer_text.proofs.PendingLemmas.{writes-all}
use Rattle.answer_text.proofs.printing.write_answer.Goals as goal

pub returns-clause-bytes : goal.returns-clause-bytes
returns-clause-bytes g c = writes-all _ _ _ _ _ _
    (rw c.clear.ensures at c.in_ok-put_answer.ensures.bytes) c.send.ensures.bytes
