-- The cache of long entries.
use Rattle.dwarf_forms.specs.{Declarations.Declaration, Tables.declarations_of}
use Rattle.dwarf_units.specs.{Units.declarations_limit, declared.unit_headers.UnitHeader.UnitHeader}
use Rattle.dwarf_walk.specs.NamedEntries.{named_entry_at}
use Rattle.dwarf_walk.specs.declared.long_entries.{LongEntries.LongEntries, LongEntry.LongEntry}
use Rattle.dwarf_walk.specs.declared.unit_entries.NamedEntry.{NamedEntry}
use Rattle.std.specs.{BTreeMap.get, Ordering.nat_cmp, Prelude.{List, Ok, Option, Some, take, ℕ}}
use Rattle.std.specs.Prelude.{◌≡◌}

-- The cached entry at an offset.
abbrev pub cached_at : LongEntries → ℕ → Option LongEntry
cached_at long offset = get nat_cmp long.cached offset

-- An entry that was read in the unit of a header.
abbrev pub long_entry : UnitHeader → NamedEntry → LongEntry
long_entry header entry = record {
  format = header.format;
  abbreviations = header.abbreviations;
  end = header.«end»;
  entry = entry;
}

-- Every cached entry is equal to the entry that is read from these sections.
abbrev pub AreCachedOf : List ℕ → List ℕ → LongEntries → Type 0
AreCachedOf section info long =
    (offset : ℕ) (cached : LongEntry) → cached_at long offset ≡ Some cached
    → (table : List Declaration)
    → declarations_of declarations_limit section cached.abbreviations ≡ Ok table
    → named_entry_at cached.format table (take cached.«end» info) offset ≡ Ok cached.entry
