use Rattle.dwarf_entries.proofs.{◌≡◌, take, roots_from, first_number}
use Rattle.dwarf_entries.proofs.units.Units.roots.Given as goal

abbrev pub invariant-loop-unit : goal.invariant-loop-unit
invariant-loop-unit l = record {
  first_is : l.first ≡ first_number l.fn.self.units l.unit-index;
  so_far : l.roots.items ≡ roots_from 0 (take l.unit-index l.fn.self.units);
}
