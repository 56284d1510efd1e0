use Rattle.dwarf_entries.proofs.{◌≡◌, AreParsedTo, first_number}
use Rattle.dwarf_entries.proofs.units.Units.scopes.Given as goal

abbrev pub invariant-loop-unit : goal.invariant-loop-unit
invariant-loop-unit l = record {
  same : l.self ≡ l.fn.self;
  so_far : AreParsedTo l.fn.self.sections l.fn.self.units (first_number l.fn.self.units l.unit)
      l.lists l.left;
}
