use Rattle.std.proofs.Common.{[], ◌∷◌, ◌++◌, decimal}
use Rattle.std.proofs.lemmas.Result.{err_from_is_err_and}
use Rattle.answer_text.proofs.PendingLemmas.{cut-more, put-cut, puts-then}
use Rattle.answer_text.proofs.frame_text.put_line.Goals as goal

pub returns-in_err-put_byte-clause-bytes : goal.returns-in_err-put_byte-clause-bytes
returns-in_err-put_byte-clause-bytes g c =
    let p = err_from_is_err_and c.from_residual.result c.from_residual.ensures.1 in
    rw (p.1) (cut-more _ _ _ (58 ∷ []) (decimal c.args.line ++ 10 ∷ [])
    c.in_err-put_byte.ensures.bytes)

pub returns-in_err-put-clause-bytes : goal.returns-in_err-put-clause-bytes
returns-in_err-put-clause-bytes g c =
    let p = err_from_is_err_and c.from_residual-in_err-put.result
    c.from_residual-in_err-put.ensures.1 in
    let cut = rw (c.as_bytes.ensures.value, c.format.ensures.text) at
    c.in_err-put.ensures.bytes in
    rw (p.1) (put-cut _ _ _ _ _ (58 ∷ []) (decimal c.args.line ++ 10 ∷ [])
    c.in_ok-put_byte.ensures.bytes
    (cut-more _ _ _ (decimal c.args.line) (10 ∷ []) cut))

pub returns-clause-bytes : goal.returns-clause-bytes
returns-clause-bytes g c =
    let number = rw (c.as_bytes.ensures.value, c.format.ensures.text) at
    c.in_ok-put.ensures.bytes in
    puts-then _ _ _ _ _ _ (58 ∷ []) (decimal c.args.line ++ 10 ∷ []) _
    c.in_ok-put_byte.ensures.bytes
    (puts-then _ _ _ _ _ _ (decimal c.args.line) (10 ∷ []) _ number c.put_byte-2.ensures.bytes)
