use Rattle.std.proofs.lemmas.Result.{err_from_is_err_and}
use Rattle.answer_text.proofs.PrintingLemmas.{cut-frames, put-one, puts-all}
use Rattle.answer_text.proofs.printing.put_frames.Goals as goal

pub returns-then-not-options-clause-bytes : goal.returns-then-not-options-clause-bytes
returns-then-not-options-clause-bytes g c =
    put-one _ _ _ _ c.args.options.now c.args.frames _ _ c.in-Some.ensures.steps
    c.if-not-options.true c.in_ok-put_frame.ensures.bytes

pub returns-clause-bytes : goal.returns-clause-bytes
returns-clause-bytes g c =
    puts-all _ _ _ _ _ _ c.args.options.now c.args.frames _ _ _ c.in-Some.ensures.steps
    c.if-not-options.false
    c.in_ok-put_frame.ensures.bytes c.put_rest.ensures.bytes

pub returns-in_err-put_frame-clause-bytes : goal.returns-in_err-put_frame-clause-bytes
returns-in_err-put_frame-clause-bytes g c =
    let p = err_from_is_err_and c.from_residual.result c.from_residual.ensures.1 in
    rw (p.1) (cut-frames _ _ _ c.args.options.now c.args.frames _ _ c.in-Some.ensures.steps
    c.in_err-put_frame.ensures.bytes)
