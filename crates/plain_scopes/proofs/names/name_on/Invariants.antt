use Rattle.std.proofs.Common.{◌≡◌, drop}
use Rattle.dwarf_entries.specs.Names.{first_on}
use Rattle.plain_scopes.proofs.names.name_on.Given as goal

abbrev pub invariant-loop-member : goal.invariant-loop-member
invariant-loop-member l = first_on l.name l.path ≡ first_on l.name (drop l.member-index l.path)
