-- The iterations of the loops over the units of an object.
use Rattle.std.proofs.Common.{◌≡◌, ℕ, ◌+◌, ◌-◌, ◌<◌, ◌≤◌, ◌⊎◌, List, [], ◌∷◌, ◌++◌, length}
use Rattle.std.proofs.Common.{arith, get_or, sum_by, Some, Ok, Err, slice_get, zip, min}
use Rattle.std.proofs.lemmas.List.Sums.{sum_by_push}
use Rattle.std.proofs.lemmas.{Option.slice_get-get_or, Slice.Zip.{get_or-zip, length-zip}}
use Rattle.dwarf_bytes.specs.Refusals.{memory_fault, in_section}
use Rattle.dwarf_bytes.specs.declared.fault.LoadFault.{LoadFault}
use Rattle.dwarf_forms.specs.{Declarations.Declaration, Tables.declarations_of}
use Rattle.dwarf_units.proofs.TableLaws.{table_for, in_section-ok}
use Rattle.dwarf_units.specs.Units.{tables_of, declarations_limit}
use Rattle.dwarf_units.specs.declared.unit_headers.UnitHeader.{UnitHeader}
use Rattle.dwarf_entries.specs.Passes.{PassedTo}
use Rattle.dwarf_entries.proofs.UnitPasses.PassLaws.{pass-next, pass-end, pass-refused}
use Rattle.dwarf_bytes.specs.declared.fault.Section.TheVariants as sections

-- The tables of the headers before an index, and the rest of the limit.
pub record TablesSoFar (section : List ℕ) (headers : List UnitHeader) (index left : ℕ)
    (tables : List (List Declaration)) : Type 0 where
  pub passed : PassedTo (table_for section) headers index tables
  pub counted : left + sum_by length tables ≡ declarations_limit

module _ {section : List ℕ} {headers : List UnitHeader} {index left : ℕ}
    {tables : List (List Declaration)}
    (so_far : TablesSoFar section headers index left tables) where
  budget : declarations_limit - sum_by length tables ≡ left
  budget = omega (arith, so_far.counted)

  pub tables-next : (header : UnitHeader) (table : List Declaration) (after : ℕ)
      → slice_get headers index ≡ Some header
      → in_section sections.DebugAbbrev (declarations_of left section header.abbreviations)
      ≡ Ok table → after + length table ≡ left
      → TablesSoFar section headers (index + 1) after (tables ++ table ∷ [])
  tables-next header table after there read counted = record {
    passed = pass-next so_far.passed header table there (rw budget (in_section-ok
        sections.DebugAbbrev (declarations_of left section header.abbreviations) table read));
    counted = omega (arith, so_far.counted, counted, sum_by_push length tables table);
  }

  pub tables-fault : {fault : LoadFault} (header : UnitHeader)
      → slice_get headers index ≡ Some header → (fault ≡ memory_fault) ⊎ (in_section
      sections.DebugAbbrev (declarations_of left section header.abbreviations) ≡ Err fault)
      → (fault ≡ memory_fault)
      ⊎ (in_section sections.DebugAbbrev (tables_of section headers) ≡ Err fault)
  unfolding tables_of
  tables-fault header there bad = grind (arith, budget, pass-refused so_far.passed header)

  pub tables-end : length headers ≤ index → tables_of section headers ≡ Ok tables
  unfolding tables_of
  tables-end past = pass-end so_far.passed past

-- The header and the table of the unit at an index.
pub pair-there : {X Y : Type 0} (xs : List X) (ys : List Y) (index : ℕ) (d : X) (y : Y)
    → index < min (length xs) (length ys) → y ≡ get_or ys index y
    → slice_get (zip xs ys) index ≡ Some (get_or xs index d, y)
pair-there xs ys index d y within y_is =
    let parts = get_or-zip xs ys index (d, y) in
    let item = slice_get-get_or (zip xs ys) index (d, y) in
    grind (arith, length-zip xs ys)
