use Rattle.std.proofs.Common.{refl}
use Rattle.std.proofs.lemmas.Result.{err_from_is_err_and}
use Rattle.answer_text.proofs.PrintingLemmas.{cut-named, puts-named}
use Rattle.answer_text.proofs.frame_text.put_name.Goals as goal

pub returns-in_err-put_or_unknown-clause-bytes : goal.returns-in_err-put_or_unknown-clause-bytes
returns-in_err-put_or_unknown-clause-bytes g c =
    let p = err_from_is_err_and c.from_residual.result c.from_residual.ensures.1 in
    rw (p.1) (cut-named _ _ _ c.args.options.now c.args.frame.now _ c.if-not-options.false
    c.printed_name.ensures
    c.in_err-put_or_unknown.ensures.bytes)

pub returns-clause-bytes : goal.returns-clause-bytes
returns-clause-bytes g c =
    puts-named _ _ _ _ _ _ c.args.options.now c.args.frame.now _ _ _ c.if-not-options.false
    c.printed_name.ensures refl
    c.in_ok-put_or_unknown.ensures.bytes c.put_after_name.ensures.bytes
