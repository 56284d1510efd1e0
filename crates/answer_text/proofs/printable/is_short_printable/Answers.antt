use Rattle.std.proofs.Common.{arith, ◌-◌, length}
use Rattle.answer_text.proofs.PrintableLemmas.{all-with-end}
use Rattle.answer_text.proofs.printable.is_short_printable.Goals as goal

pub returns : goal.returns
returns c = all-with-end _ 8 (length c.args.text.now - 8) c.args.text.now _ _
    (omega (arith, c.requires)) c.is_block_printable-start.ensures
    c.is_block_printable-2.ensures
