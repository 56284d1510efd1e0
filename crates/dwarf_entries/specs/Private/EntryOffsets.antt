-- Units after the walk over their entries, for the contracts of the passes.
use Rattle.std.specs.{Prelude.{◌≡◌, ℕ, ◌==◌, List, length, map, flat_map, sum_by}, List.list_any}
use Rattle.dwarf_units.specs.Entries.{Die}
use Rattle.dwarf_walk.specs.declared.unit_entries.UnitEntries.{UnitEntries}
use Rattle.dwarf_walk.specs.{declared.entry_bitmap.EntryBitmap.EntryBitmap, EntryBitmap.has_entry}
use Rattle.dwarf_walk.specs.{EntryBitmap.offsets_of, Stored.{StoredUnit, stored_unit, stored_of}}
use Rattle.dwarf_entries.specs.Units.{CompilationUnit}

-- The number of scopes of the units of the program.
abbrev pub scope_count : List UnitEntries → ℕ
scope_count units = sum_by (λ unit. length unit.scopes.items) units

-- The data that is stored for a unit.
abbrev pub stored_unit_of : CompilationUnit → StoredUnit
stored_unit_of unit = stored_unit unit.header unit.dies

-- The program stores the data of these units.
abbrev pub AreStored : List UnitEntries → List CompilationUnit → Type 0
AreStored stored us = map stored_of stored ≡ map stored_unit_of us

abbrev pub dies_of : CompilationUnit → List Die
dies_of unit = unit.dies

-- The offsets of the entries of all units.
abbrev pub all_offsets : List CompilationUnit → List ℕ
all_offsets us = flat_map offsets_of (map dies_of us)

-- The bitmap contains exactly the offsets of the entries of these units.
abbrev pub IsBitmapOf : EntryBitmap → List CompilationUnit → Type 0
IsBitmapOf bitmap us =
    (at : ℕ) → has_entry bitmap at ≡ list_any (λ offset. offset == at) (all_offsets us)
