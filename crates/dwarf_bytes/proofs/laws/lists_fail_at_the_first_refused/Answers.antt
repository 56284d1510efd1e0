use Rattle.dwarf_bytes.proofs.Items.FirstInvalid.{first-refused, first-refused-again}
use Rattle.dwarf_bytes.proofs.laws.lists_fail_at_the_first_refused.Goals as goal

pub returns : goal.returns
returns c _ make before elements fault =
    (first-refused make before elements fault, first-refused-again make before elements fault)
