use Rattle.std.proofs.Common.{◌∙◌, sym, ap}
use Rattle.command_line.specs.Numbers.{number}
use Rattle.command_line.proofs.WordLemmas.{number_more, number_bad}
use Rattle.command_line.proofs.words.numbers.Goals as goal

pub returns-in_default : goal.returns-in_default
returns-in_default c =
    number_bad c.args.words.now c.loop-word.word-index _ c.loop-word.numbers.items _
    c.loop-word.invariant c.loop-word-test.true
    (ap number (sym c.as_bytes.ensures.value) ∙ sym c.parse_number.ensures ∙ c.in_default.is)

pub loop-word-preserved : goal.loop-word-preserved
loop-word-preserved c =
    number_more c.args.words.now c.loop-word.word-index _ c.loop-word.numbers.items _
    c.loop-word.invariant c.in-Some.number c.push.new.self.items c.loop-word-test.true
    (ap number (sym c.as_bytes.ensures.value) ∙ sym c.parse_number.ensures ∙ c.in-Some.is)
    c.in_ok-push.ensures.items
