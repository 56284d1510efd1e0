-- Re-reading entries at their offsets.
use Rattle.dwarf_bytes.specs.{Bind.◌>>=◌, Refusals.{Fails, Gives}, declared.fault.Cause.Cause}
use Rattle.dwarf_bytes.specs.declared.format.Format.{Format}
use Rattle.dwarf_forms.specs.{Declarations.Declaration, Tables.declarations_of}
use Rattle.dwarf_units.specs.{Entries.entry_at, Tables.IsNumberOf}
use Rattle.dwarf_units.specs.{Units.declarations_limit, declared.unit_headers.UnitHeader.UnitHeader}
use Rattle.dwarf_walk.specs.{LongEntries.{AreCachedOf, cached_at, long_entry}, Sections.Sections}
use Rattle.dwarf_walk.specs.NamedEntries.{entry_with, named_entry_at, used_at}
use Rattle.dwarf_walk.specs.{Stored.scope_entry_of, declared.entry_reader.EntryReader.EntryReader}
use Rattle.dwarf_walk.specs.declared.entry_reader.TheConstants.{LONG}
use Rattle.dwarf_walk.specs.declared.long_entries.LongEntry.{LongEntry}
use Rattle.dwarf_walk.specs.declared.unit_entries.{NamedEntry.NamedEntry, ScopeEntry.ScopeEntry}
use Rattle.std.specs.Prelude.{Err, List, Ok, Option, Result, Some, ok_or, take, ℕ, ◌-◌}
use Rattle.std.specs.Prelude.{◌<◌, ◌≡◌, ◌≤◌}
use Rattle.dwarf_bytes.specs.declared.fault.Cause.TheVariants as causes

-- The call returns the first part of the outcome and stores the second part in the output argument.
-- It may also fail because memory ran out.
abbrev pub ReturnsAndStores : {X Y : Type 0} → Result X Cause → Y → Result (X × Y) Cause → Type 0
ReturnsAndStores (Ok x) left outcome = outcome ≡ Ok (x, left)
ReturnsAndStores (Err cause) left outcome = Fails cause outcome

-- The size in bytes of the entry at an offset of a unit.
abbrev pub len_at : Format → List Declaration → List ℕ → ℕ → Result ℕ Cause
len_at format table unit offset =
    entry_at format table unit offset >>= λ entry. Ok (entry.1 - offset)

-- The table at the reader's index is the table of a unit, as it is parsed from the section.
abbrev pub HasTableOf : UnitHeader → EntryReader → Type 0
HasTableOf header reader =
    IsNumberOf reader.tables.section header reader.tables.tables reader.number

-- The table of a unit is cached permanently, and the reader has its index.
abbrev pub HasPermanentTable : UnitHeader → EntryReader → Type 0
HasPermanentTable header reader = HasTableOf header reader
    × (reader.number < reader.tables.permanent)

-- The entry at an offset of a unit is short enough to be re-read for each reference to it.
abbrev pub IsShort : Format → List Declaration → List ℕ → ℕ → Type 0
IsShort format table unit offset =
    (len : ℕ) → len_at format table unit offset ≡ Ok len → len ≤ LONG

-- The scope at an offset of a unit. An entry that is not a scope is refused as an invalid
-- reference.
abbrev pub scope_entry_at : Format → List Declaration → List ℕ → ℕ → Result ScopeEntry Cause
scope_entry_at format table unit offset =
    used_at format table unit offset
    >>= λ entry. ok_or (scope_entry_of (entry_with offset entry)) causes.Reference

-- The reader reads these sections, and its cached entries are entries of them.
pub record IsReaderOf (s : Sections) (reader : EntryReader) : Type 0 where
  pub section : reader.tables.section ≡ s.debug_abbrev
  pub info : reader.info.now ≡ s.debug_info
  pub long : AreCachedOf s.debug_abbrev s.debug_info reader.long

-- The cached entry at an offset.
abbrev pub cached_by : EntryReader → ℕ → Option LongEntry
cached_by reader offset = cached_at reader.long offset

-- If the entry at an offset of a unit can be read, it is cached.
abbrev pub IsCachedAt : Sections → UnitHeader → EntryReader → ℕ → Type 0
IsCachedAt s header reader offset =
    (table : List Declaration) (entry : NamedEntry)
    → declarations_of declarations_limit s.debug_abbrev header.abbreviations ≡ Ok table
    → named_entry_at header.format table (take header.«end» s.debug_info) offset ≡ Ok entry
    → cached_at reader.long offset ≡ Some (long_entry header entry)

-- The call gives the names and the reference of the entry at an offset of a unit.
abbrev pub GivesNames : UnitHeader → ℕ → EntryReader → Result NamedEntry Cause → Type 0
GivesNames header offset reader result =
    (s : Sections) (table : List Declaration) → IsReaderOf s reader
    → declarations_of declarations_limit s.debug_abbrev header.abbreviations ≡ Ok table
    → Gives (λ entry. entry) result
    (named_entry_at header.format table (take header.«end» s.debug_info) offset)
