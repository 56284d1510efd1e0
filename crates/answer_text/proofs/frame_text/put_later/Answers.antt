use Rattle.std.proofs.lemmas.Result.{err_from_is_err_and}
use Rattle.answer_text.proofs.PendingLemmas.{cut-more, puts-then}
use Rattle.answer_text.proofs.frame_text.put_later.Goals as goal

pub returns-in_err-put_before_later-clause-bytes : goal.returns-in_err-put_before_later-clause-bytes
returns-in_err-put_before_later-clause-bytes g c =
    let p = err_from_is_err_and c.from_residual.result c.from_residual.ensures.1 in
    rw (p.1) (cut-more _ _ _ _ _ c.in_err-put_before_later.ensures.bytes)

pub returns-clause-bytes : goal.returns-clause-bytes
returns-clause-bytes g c = puts-then _ _ _ _ _ _ _ _ _ c.in_ok-put_before_later.ensures.bytes
    c.put_frame.ensures.bytes
