use Rattle.dwarf_entries.proofs.{scopes-between}
use Rattle.dwarf_entries.proofs.laws.scopes_below_are_between.Goals as goal

pub returns : goal.returns
returns c = scopes-between
