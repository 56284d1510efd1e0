use Rattle.dwarf_units.proofs.{All, ◌≡◌, take, IsCachedOrTooLarge, AreParsedSoFar}
use Rattle.dwarf_units.specs.Tables.{IsWithinLimit}
use Rattle.dwarf_units.proofs.tables.Tables.validate.Given as goal

abbrev pub invariant-loop-unit : goal.invariant-loop-unit
invariant-loop-unit l = record {
  checked : AreParsedSoFar l.section l.units l.unit-index l.left;
  section : l.tables.section ≡ l.section;
  limit : IsWithinLimit l.tables;
  stays : All (IsCachedOrTooLarge l.tables) (take l.unit-index l.units);
}
