use Rattle.std.proofs.Common.{◌≡◌, []}
use Rattle.answer_text.specs.Private.Paths.{last_or}
use Rattle.answer_text.proofs.paths.last_part.Given as goal

abbrev pub invariant-loop-part : goal.invariant-loop-part
invariant-loop-part l = last_or l.last l.part-iterator ≡ last_or [] l.initial.part-iterator
