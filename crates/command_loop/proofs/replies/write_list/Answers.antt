use Rattle.std.proofs.lemmas.Result.{err_from_is_err_and}
use Rattle.command_loop.proofs.ReplyLemmas.{list-cut, list-writes}
use Rattle.command_loop.proofs.replies.write_list.Goals as goal

pub returns-in_err-put-clause-bytes : goal.returns-in_err-put-clause-bytes
returns-in_err-put-clause-bytes g c =
    let p = err_from_is_err_and c.from_residual-in_err-put.result
    c.from_residual-in_err-put.ensures.1 in
    rw (p.1) (list-cut _ _ _ _ _ _ _ c.new-pending.ensures c.list.ensures.modules
    c.in_ok-put_modules.ensures.bytes
    c.in_err-put.ensures.bytes)

pub returns-clause-bytes : goal.returns-clause-bytes
returns-clause-bytes g c =
    list-writes _ _ _ _ _ _ _ _ _ _ c.new-pending.ensures c.list.ensures.modules
    c.in_ok-put_modules.ensures.bytes
    c.in_ok-put.ensures.bytes c.send.ensures.bytes
