use Rattle.std.proofs.Common.{◌≡◌, ◌++◌, drop}
use Rattle.dwarf_entries.specs.Scopes.{roots_from}
use Rattle.plain_scopes.proofs.tree.roots_of.Given as goal

abbrev pub invariant-loop-unit : goal.invariant-loop-unit
invariant-loop-unit l =
    l.roots.items ++ roots_from l.first (drop l.unit-index l.units) ≡ roots_from 0 l.units
