use Rattle.std.proofs.Common.{◌≢◌, [], rules}
use Rattle.std.proofs.lemmas.Result.{err_from_is_err_and}
use Rattle.answer_text.proofs.PathLemmas.{first-nonempty}
use Rattle.answer_text.proofs.PendingLemmas.{cut-more, puts-then, cut-as, puts-as}
use Rattle.answer_text.proofs.paths.put_path.Goals as goal

pub returns-in_err-put_printable-clause-bytes : goal.returns-in_err-put_printable-clause-bytes
returns-in_err-put_printable-clause-bytes g c =
    let p = err_from_is_err_and c.from_residual.result c.from_residual.ensures.1 in
    let some : c.in-Some.part.now ≢ [] = search rules in
    rw (p.1) (cut-as _ _ _ _ _ (first-nonempty c.args.path _ _ c.in-Some.ensures.steps some)
    (cut-more _ _ _ _ _ c.in_err-put_printable.ensures.bytes))

pub returns-clause-bytes : goal.returns-clause-bytes
returns-clause-bytes g c =
    let some : c.in-Some.part.now ≢ [] = search rules in
    puts-as _ _ _ _ _ _ _ (first-nonempty c.args.path _ _ c.in-Some.ensures.steps some)
    (puts-then _ _ _ _ _ _ _ _ _ c.in_ok-put_printable.ensures.bytes c.put_rest.ensures.bytes)
