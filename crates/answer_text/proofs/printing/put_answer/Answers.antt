use Rattle.std.proofs.Common.{ap}
use Rattle.std.proofs.lemmas.Result.{err_from_is_err_and}
use Rattle.answer_text.proofs.PendingLemmas.{puts-as}
use Rattle.answer_text.proofs.PrintingLemmas.{cut-first, puts-first, site-text}
use Rattle.answer_text.specs.Text.{answer_text, heading_text, frames_text}
use Rattle.answer_text.proofs.printing.put_answer.Goals as goal

pub returns-in_err-put_heading-clause-bytes : goal.returns-in_err-put_heading-clause-bytes
unfolding answer_text
returns-in_err-put_heading-clause-bytes g c =
    let p = err_from_is_err_and c.from_residual.result c.from_residual.ensures.1 in
    let o = c.args.options.now in
    let a = c.args.answer.now in
    rw (p.1) (cut-first _ _ _ (heading_text o c.address.result) (heading_text o a.address)
    (frames_text o a.frames)
    (ap (heading_text o) c.address.ensures) c.in_err-put_heading.ensures.bytes)

pub returns-clause-bytes : goal.returns-clause-bytes
unfolding answer_text
returns-clause-bytes g c =
    let o = c.args.options.now in
    let a = c.args.answer.now in
    puts-first _ _ _ _ _ _ (heading_text o c.address.result) (heading_text o a.address)
    (frames_text o a.frames) _
    (ap (heading_text o) c.address.ensures) c.in_ok-put_heading.ensures.bytes
    (puts-as _ _ _ _ (frames_text o c.frames.result) (frames_text o a.frames) _
    (ap (frames_text o) c.frames.ensures) c.put_frames.ensures.bytes)

pub returns-then-not-options-2-clause-bytes : goal.returns-then-not-options-2-clause-bytes
unfolding answer_text
returns-then-not-options-2-clause-bytes g c =
    let o = c.args.options.now in
    let a = c.args.answer.now in
    puts-first _ _ _ _ _ _ (heading_text o c.address.result) (heading_text o a.address)
    (frames_text o a.frames) _
    (ap (heading_text o) c.address.ensures) c.in_ok-put_heading.ensures.bytes
    (puts-as _ _ _ _ _ (frames_text o a.frames) _
    (site-text o _ a.frames c.if-not-options.true c.if-not-options-2.true c.site-site.ensures)
    c.put_place.ensures.bytes)
