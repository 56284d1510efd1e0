use Rattle.dwarf_entries.proofs.{◌≡◌, ◌+◌, AreParsedTo, first_number}
use Rattle.dwarf_entries.proofs.units.Units.unit_scopes.Given as goal

abbrev pub invariant-loop-index : goal.invariant-loop-index
invariant-loop-index l = record {
  same : l.self ≡ l.fn.self;
  so_far : AreParsedTo l.fn.self.sections l.fn.self.units (first_number l.fn.self.units l.unit)
      l.fn.lists l.fn.left
      → AreParsedTo l.fn.self.sections l.fn.self.units
      (first_number l.fn.self.units l.unit + l.index) l.lists l.left;
}
