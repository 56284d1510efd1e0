use Rattle.std.proofs.lemmas.Result.{err_from_is_err_and}
use Rattle.answer_text.proofs.PathLemmas.{second-after-empty}
use Rattle.answer_text.proofs.PendingLemmas.{cut-more, puts-then, cut-as, puts-as}
use Rattle.answer_text.proofs.paths.put_after_empty_part.Goals as goal

pub returns-in_err-put_after_slash-clause-bytes : goal.returns-in_err-put_after_slash-clause-bytes
returns-in_err-put_after_slash-clause-bytes g c =
    let p = err_from_is_err_and c.from_residual.result c.from_residual.ensures.1 in
    rw (p.1) (cut-as _ _ _ _ _ (second-after-empty c.args.path _ _ c.in-Some.ensures.steps)
    (cut-more _ _ _ _ _ c.in_err-put_after_slash.ensures.bytes))

pub returns-clause-bytes : goal.returns-clause-bytes
returns-clause-bytes g c =
    puts-as _ _ _ _ _ _ _ (second-after-empty c.args.path _ _ c.in-Some.ensures.steps)
    (puts-then _ _ _ _ _ _ _ _ _ c.in_ok-put_after_slash.ensures.bytes c.put_rest.ensures.bytes)
