use Rattle.std.proofs.lemmas.Result.{err_from_is_err_and}
use Rattle.std.proofs.Common.{[], ◌∷◌, map}
use Rattle.answer_text.specs.Printable.{printable}
use Rattle.answer_text.proofs.PendingLemmas.{cut-more, puts-then}
use Rattle.answer_text.proofs.paths.put_after_slash.Goals as goal

pub returns-in_err-put_byte-clause-bytes : goal.returns-in_err-put_byte-clause-bytes
returns-in_err-put_byte-clause-bytes g c =
    let p = err_from_is_err_and c.from_residual.result c.from_residual.ensures.1 in
    rw (p.1)
    (cut-more _ _ _ (47 ∷ []) (map printable c.args.part.now) c.in_err-put_byte.ensures.bytes)

pub returns-clause-bytes : goal.returns-clause-bytes
returns-clause-bytes g c =
    puts-then _ _ _ _ _ _ (47 ∷ []) (map printable c.args.part.now) _ c.in_ok-put_byte.ensures.bytes
    c.put_printable.ensures.bytes
