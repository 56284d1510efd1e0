-- How tables are cached, for the contracts of the functions that add them.
use Rattle.dwarf_bytes.specs.{Refusals.in_section, declared.format.Format.Format}
use Rattle.dwarf_forms.specs.Tables.{declarations_of}
use Rattle.dwarf_units.specs.AbbreviationTables.{Table, table_key, table_size}
use Rattle.dwarf_units.specs.Tables.{CachedTables, IsAt, IsParsedFrom, size_limit, with_table}
use Rattle.dwarf_units.specs.declared.unit_headers.UnitHeader.{UnitHeader}
use Rattle.std.specs.{BTreeMap.{BTreeMap, get}, List.All, Ordering.nat_cmp, Prelude.{List, Ok}}
use Rattle.std.specs.Prelude.{Some, length, slice_get, sum_by, take, ℕ, ◌++◌, ◌+◌, ◌<◌, ◌≡◌, ◌≤◌}
use Rattle.dwarf_bytes.specs.declared.fault.Section.TheVariants as sections

-- The permanently cached tables are still cached, at the same indexes.
abbrev pub StaysCached : CachedTables → CachedTables → Type 0
StaysCached old new = (rest : List Table)
    × (take new.permanent new.tables ≡ take old.permanent old.tables ++ rest)

-- Each table is parsed from the section, and its format and offset map to its index. `budget` is
-- the remaining budget. The temporary table, if there is one, exceeds it.
pub record AreCached (section : List ℕ) (tables : List Table) (permanent budget : ℕ)
    (numbers : BTreeMap ℕ ℕ) : Type 0 where
  pub parsed : All (IsParsedFrom section) tables
  pub found : (i : ℕ) (table : Table) → slice_get tables i ≡ Some table
      → get nat_cmp numbers (table_key table.format table.offset) ≡ Some i
  pub counted : budget + sum_by table_size (take permanent tables) ≡ size_limit section
  pub within : permanent ≤ length tables
  pub one : length tables ≤ permanent + 1
  pub past : (table : Table) → slice_get tables permanent ≡ Some table → budget < table_size table

-- The table of a unit is cached at this index only.
pub record IsIndexOf (cached : CachedTables) (unit : UnitHeader) (number : ℕ) : Type 0 where
  pub table : Table
  pub found : slice_get cached.tables number ≡ Some table
  pub at : IsAt unit.format unit.abbreviations table
  pub parsed : IsParsedFrom cached.section table
  pub only : (other : ℕ) (same : Table) → slice_get cached.tables other ≡ Some same
      → IsAt unit.format unit.abbreviations same → number ≡ other

-- The table at an offset is parsed with a budget of `budget` declarations and added at this index.
pub record IsAdded (format : Format) (offset budget : ℕ) (old new : CachedTables) (number : ℕ)
    : Type 0 where
  pub table : Table
  pub within : table.section ≡ old.section
  pub at : IsAt format offset table
  pub read : in_section sections.DebugAbbrev (declarations_of budget old.section offset)
      ≡ Ok table.declarations
  pub few : length table.declarations ≤ budget
  pub found : slice_get new.tables number ≡ Some table
  pub added : new ≡ with_table old table
