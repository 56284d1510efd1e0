use Rattle.dwarf_entries.proofs
use proofs.{◌≡◌, List, Ok, ℕ, Declaration, tables_of, zip, UnitHeader, UnitEntries, EntryBitmap}
use proofs.{AddsOffsets, CompilationUnit, AreStored, all_offsets, PassedTo, unit_of}
use Rattle.dwarf_entries.proofs.passes.all_entries.Given as goal

-- The units before the index, the data that is stored for them, and the bits of their entries.
pub record EntriesSoFar (info : List ℕ) (headers : List UnitHeader)
    (tables : List (List Declaration)) (bitmap marked : EntryBitmap) (index : ℕ)
    (stored : List UnitEntries) : Type 0 where
  pub made : List CompilationUnit
  pub passed : PassedTo (λ _ p. unit_of info p.0 p.1) (zip headers tables) index made
  pub stored_are : AreStored stored made
  pub marked_so : AddsOffsets bitmap marked (all_offsets made)

abbrev pub invariant-loop-header : goal.invariant-loop-header
invariant-loop-header l = record {
  so_far :
      (all : List (List Declaration)) → tables_of l.sections.debug_abbrev.now l.headers ≡ Ok all
      → EntriesSoFar l.sections.debug_info.now l.headers all l.fn.bitmap l.bitmap l.header-index
      l.units.items;
  section : l.tables.section ≡ l.sections.debug_abbrev.now;
}
