use Rattle.dwarf_entries.proofs.{scopes-in-order}
use Rattle.dwarf_entries.proofs.laws.scopes_are_in_order.Goals as goal

pub returns : goal.returns
returns c = scopes-in-order
