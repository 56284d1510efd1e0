use Rattle.std.proofs.Common.{◌∙◌, [], refl}
use Rattle.std.proofs.lemmas.Result.{err_from_is_err_and}
use Rattle.answer_text.proofs.PendingLemmas.{put-fitting, same-buffer, put-sent, cut-sent}
use Rattle.answer_text.proofs.PendingLemmas.{put-then, puts-after, puts-through}
use Rattle.answer_text.proofs.pending.Pending.put_after_send.Goals as goal

pub returns-in_err-send-clause-bytes : goal.returns-in_err-send-clause-bytes
returns-in_err-send-clause-bytes g c =
    let p = err_from_is_err_and c.from_residual.result c.from_residual.ensures.1 in
    rw (p.1) (cut-sent _ _ _ _ _ refl c.in_err-send.ensures.bytes)

pub returns-then-push-clause-bytes : goal.returns-then-push-clause-bytes
returns-then-push-clause-bytes g c =
    put-then _ _ _ _ _ _ [] c.args.text.now
    (put-sent _ _ _ _ _ refl c.in_ok-send.ensures.bytes c.in_ok-send.ensures.empty)
    (put-fitting _ _ _ _ _ c.if-push.true c.push.ensures)

pub returns-clause-bytes : goal.returns-clause-bytes
returns-clause-bytes g c =
    let none = same-buffer _ _ _ _ c.if-push.false c.push.ensures ∙ c.in_ok-send.ensures.empty in
    puts-after _ _ _ _ _ _ _ _
    (put-sent _ _ _ _ _ refl c.in_ok-send.ensures.bytes none)
    (puts-through _ _ _ _ _ none c.write_all.ensures.bytes)
