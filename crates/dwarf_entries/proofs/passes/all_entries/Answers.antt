use Rattle.dwarf_entries.proofs
use Rattle.dwarf_entries.proofs.passes.all_entries.Invariants.{EntriesSoFar}
use proofs.{AddsOffsets, At, CompilationUnit, DebugAbbrev, DebugInfo, Declaration, Die, EntryBitmap}
use proofs.{Err, Faults, List, LoadFault, Ok, Result, Some, UnitEntries, UnitHeader, [], adds-more}
use proofs.{adds-none, all_entries, all_offsets, append-nil, arith, bind_ok, common_steps}
use proofs.{declarations_limit, declarations_of, each-length, entries_of, exit, flat_map-append}
use proofs.{get_or, get_or-zip, in_section, in_section-ok, inl, length, length-zip, map_push}
use proofs.{memory_fault, no_bases, offsets_of, pass-end, pass-fault, pass-next, pass-none, refl}
use proofs.{same_Some, slice_get, slice_get-get_or, slice_get_within, stored_entries, stored_of}
use proofs.{sym, table_for, table_is, tables_of, zip, ℕ, ◌++◌, ◌+◌, ◌<◌, ◌∙◌, ◌∷◌, ◌≡◌, ◌⊎◌}
use Rattle.dwarf_entries.proofs.passes.all_entries.Goals as goal

-- Re-reading a valid table fails only because memory ran out.
only-memory : {X : Type 0} (r : Result X At) (x : X) (fault : LoadFault) → r ≡ Ok x
    → (fault ≡ memory_fault) ⊎ (in_section DebugAbbrev r ≡ Err fault) → fault ≡ memory_fault
only-memory r x fault read bad = grind arith

-- The header and the table of the unit at an index.
pair-at : (section : List ℕ) (headers : List UnitHeader) (tables : List (List Declaration))
    (index : ℕ) (d : UnitHeader) (table : List Declaration) → tables_of section headers ≡ Ok tables
    → index < length headers → in_section DebugAbbrev (declarations_of declarations_limit section
    (get_or headers index d).abbreviations) ≡ Ok table
    → slice_get (zip headers tables) index ≡ Some (get_or headers index d, table)
unfolding tables_of
pair-at section headers tables index d table all within table_read =
    let sizes = each-length (table_for section) [] headers tables all in
    let item = slice_get-get_or (zip headers tables) index (d, []) in
    let parts = get_or-zip headers tables index (d, []) in
    grind (arith, sizes, length-zip headers tables, table_is)

module _ {info : List ℕ} {headers : List UnitHeader} {tables : List (List Declaration)}
    {bitmap marked : EntryBitmap} {index : ℕ} {stored : List UnitEntries} {header : UnitHeader}
    {table : List Declaration}
    (so_far : EntriesSoFar info headers tables bitmap marked index stored)
    (there : slice_get (zip headers tables) index ≡ Some (header, table)) where
  entries-next : (after : EntryBitmap) (unit : UnitEntries)
      → in_section DebugInfo (stored_entries info header table) ≡ Ok (stored_of unit)
      → ((dies : List Die) → entries_of info header table ≡ Ok dies
      → AddsOffsets marked after (offsets_of dies))
      → EntriesSoFar info headers tables bitmap after (index + 1) (stored ++ unit ∷ [])
  entries-next after unit unit_read adds =
      let made = so_far.made in
      let found = bind_ok (entries_of info header table) _ (stored_of unit)
      (in_section-ok DebugInfo (stored_entries info header table) (stored_of unit) unit_read) in
      let u : CompilationUnit = record { header = header; dies = found.0; bases = no_bases } in
      let offsets : all_offsets made ++ offsets_of found.0 ≡ all_offsets (made ++ u ∷ []) =
      simp (map_push, flat_map-append, append-nil) in
      let next = pass-next so_far.passed (header, table) u there (grind (arith, found.1)) in
      let marks = adds-more bitmap marked after (all_offsets made) (offsets_of found.0)
      so_far.marked_so (adds found.0 found.1) in
      grind (arith, map_push)

  entries-fault : {fault : LoadFault} → Faults fault (stored_entries info header table)
      → Faults fault (all_entries info headers tables)
  entries-fault bad = pass-fault so_far.passed (header, table) there (grind arith)

pub loop-header-init : goal.loop-header-init
loop-header-init c = rw c.new-units.ensures.items (record {
  so_far = λ tables all. record {
    made = [];
    passed = pass-none;
    stored_are = refl;
    marked_so = adds-none c.args.bitmap.now;
  };
  section = c.requires;
})

pub returns-in_err-number-clause-units : goal.returns-in_err-number-clause-units
returns-in_err-number-clause-units c tables all =
    rw (exit _ c.from_residual.ensures.1)
    (inl (only-memory _ _ _ (table_is _ _ tables _ _ all c.loop-header-test.true)
    (rw c.loop-header.invariant.section at c.in_err-number.ensures.err)))

pub table-table-requires : goal.table-table-requires
table-table-requires c = grind (arith, slice_get_within)

pub returns-in_err-unit-clause-units : goal.returns-in_err-unit-clause-units
returns-in_err-unit-clause-units c tables all =
    let found = rw c.loop-header.invariant.section at c.in_ok-number.ensures.ok in
    let same = same_Some c.table-table.result found.0 (sym c.table-table.ensures ∙ found.1) in
    rw (exit _ c.from_residual-in_err-unit.ensures.1)
    (entries-fault (c.loop-header.invariant.so_far tables all)
    (pair-at _ _ tables _ _ _ all c.loop-header-test.true found.2)
    (rw same at c.in_err-unit.ensures.decodes))

pub loop-header-preserved : goal.loop-header-preserved
loop-header-preserved c =
    let found = rw c.loop-header.invariant.section at c.in_ok-number.ensures.ok in
    let same = same_Some c.table-table.result found.0 (sym c.table-table.ensures ∙ found.1) in
    record {
      so_far = λ tables all. rw c.in_ok-push.ensures.items (entries-next
          (c.loop-header.invariant.so_far tables all)
          (pair-at _ _ tables _ _ _ all c.loop-header-test.true found.2)
          c.entries.new.bitmap c.in_ok-unit.unit (rw same at c.in_ok-unit.ensures.decodes)
          (rw same at c.in_ok-unit.ensures.bitmap));
      section = c.in_ok-number.ensures.section ∙ c.loop-header.invariant.section;
    }

pub returns-clause-units : goal.returns-clause-units
returns-clause-units c tables all =
    let so_far = c.loop-header.invariant.so_far tables all in
    grind (arith, common_steps, pass-end, length-zip, c.loop-header-test.false)
