use Rattle.dwarf_bytes.proofs.Items.FirstInvalid.{first-invalid, first-invalid-again}
use Rattle.dwarf_bytes.proofs.laws.items_fail_at_the_first_invalid.Goals as goal

pub returns : goal.returns
returns c _ end step adv before at cause offset = (
  first-invalid end step adv before at cause offset,
  first-invalid-again end step adv before at cause offset,
)
