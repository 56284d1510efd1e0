-- The cached tables of units.
use Rattle.dwarf_bytes.specs.Refusals.{in_section, memory_fault}
use Rattle.dwarf_bytes.specs.declared.{fault.LoadFault.LoadFault, format.Format.Format}
use Rattle.dwarf_forms.specs.{Declarations.Declaration, Tables.declarations_of}
use Rattle.dwarf_units.specs.AbbreviationTables.{Table, table_size}
use Rattle.dwarf_units.specs.{Units.declarations_limit, declared.unit_headers.UnitHeader.UnitHeader}
use Rattle.std.specs.Prelude.{Err, IfErr, List, Ok, Result, Some, [], if◌then◌else◌, length, nat_le}
use Rattle.std.specs.Prelude.{slice_get, sum_by, take, ℕ, ◌++◌, ◌+◌, ◌<◌, ◌∷◌, ◌≡◌, ◌≤◌, ◌⊎◌}
use Rattle.dwarf_bytes.specs.declared.fault.Section.TheVariants as sections

-- The tables of a section by index, and the number of those that are cached permanently. A table
-- after them is the last one that was parsed.
pub record CachedTables : Type 0 where
  pub section : List ℕ
  pub tables : List Table
  pub permanent : ℕ

-- The table of a unit as it is parsed, if at most `budget` declarations may be read.
abbrev pub table_read : ℕ → List ℕ → UnitHeader → Result (List Declaration) LoadFault
table_read budget section unit =
    in_section sections.DebugAbbrev (declarations_of budget section unit.abbreviations)

-- If a call fails, the read fails with the same fault, or memory ran out.
abbrev pub Refuses : {X Y : Type 0} → Result X LoadFault → Result Y LoadFault → Type 0
Refuses result outcome = IfErr result (λ fault. (fault ≡ memory_fault) ⊎ (outcome ≡ Err fault))

-- A table has the declarations that are parsed at its offset of the section.
abbrev pub IsParsedFrom : List ℕ → Table → Type 0
IsParsedFrom section table = (table.section ≡ section)
    × (declarations_of declarations_limit section table.offset ≡ Ok table.declarations)

-- A table is at an offset, for units of a format.
abbrev pub IsAt : Format → ℕ → Table → Type 0
IsAt format offset table = (table.offset ≡ offset) × (table.format ≡ format)

-- The table at an index is at an offset, for units of a format.
abbrev pub IsTableAt : Format → ℕ → List Table → ℕ → Type 0
IsTableAt format offset tables number = (table : Table)
    × (slice_get tables number ≡ Some table) × IsAt format offset table

-- The table at an index is the table of a unit, as it is parsed from the section.
abbrev pub IsNumberOf : List ℕ → UnitHeader → List Table → ℕ → Type 0
IsNumberOf section unit tables number = (table : Table) × (slice_get tables number ≡ Some table)
    × (table_read declarations_limit section unit ≡ Ok table.declarations)
    × (table.offset ≡ unit.abbreviations) × (table.format ≡ unit.format)

-- None of the tables is at an offset for units of a format.
abbrev pub AreElsewhere : Format → ℕ → List Table → Type 0
AreElsewhere format offset tables = (i : ℕ) (table : Table) → slice_get tables i ≡ Some table
    → IsAt format offset table → ⊥

-- The maximum size of the tables of a section that are cached permanently.
abbrev pub size_limit : List ℕ → ℕ
size_limit section = length section + 65536

-- The permanently cached tables are within the limit, and at most one table is temporary.
abbrev pub IsWithinLimit : CachedTables → Type 0
IsWithinLimit k = (sum_by table_size (take k.permanent k.tables) ≤ size_limit k.section)
    × (k.permanent ≤ length k.tables) × (length k.tables ≤ k.permanent + 1)

-- The table of a unit is cached permanently, or it would exceed the limit in addition to those
-- that are.
abbrev pub IsCachedOrTooLarge : CachedTables → UnitHeader → Type 0
IsCachedOrTooLarge k unit = (table : Table) × IsAt unit.format unit.abbreviations table
    × IsParsedFrom k.section table
    × (((number : ℕ) × (slice_get (take k.permanent k.tables) number ≡ Some table))
    ⊎ (size_limit k.section < sum_by table_size (take k.permanent k.tables) + table_size table))

-- The cache after one more table, which is permanent if all of them are within the limit.
abbrev pub with_table : CachedTables → Table → CachedTables
with_table k table =
    let tables = take k.permanent k.tables ++ table ∷ [] in
    record {
      section = k.section;
      tables = tables;
      permanent = if nat_le (sum_by table_size tables) (size_limit k.section)
          then length tables else k.permanent;
    }
