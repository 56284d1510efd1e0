use Rattle.std.proofs.Common.{arith, ◌-◌, ◌+◌, length, true, sym, ◌∙◌}
use Rattle.std.specs.Prelude.{not}
use Rattle.answer_text.specs.Printable.{is_control}
use Rattle.answer_text.proofs.PrintableLemmas.{all-with-block, all-with-end, not-all-with-block}
use Rattle.answer_text.proofs.printable.are_printable.Goals as goal

pub loop-at-preserved : goal.loop-at-preserved
loop-at-preserved c = (
  all-with-block _ c.loop-at.at 16 c.args.text.now c.loop-at.invariant.0
      (sym c.is_block_printable.ensures ∙ c.if-not-is_block_printable.false),
  omega (arith, c.loop-at-test.true, c.loop-at.invariant.1),
)

pub returns-then-not-is_block_printable : goal.returns-then-not-is_block_printable
returns-then-not-is_block_printable c =
    sym (not-all-with-block _ c.loop-at.at (c.loop-at.at + 16 - c.loop-at.at) c.args.text.now
    (sym c.is_block_printable.ensures ∙ c.if-not-is_block_printable.true))

pub returns : goal.returns
returns c = all-with-end (λ byte. not (is_control byte)) c.loop-at.at
    (length c.args.text.now - 16) c.args.text.now true _
    (omega (arith, c.loop-at-test.false)) (sym c.loop-at.invariant.0)
    c.is_block_printable-2.ensures
