use Rattle.dwarf_entries.proofs.{sym, ◌∙◌, List, refl, Die, in_section-ok, sections_of, units_read}
use Rattle.dwarf_entries.proofs.{DebugAbbrev, stored_unit, bases-stay, exit, step-fault}
use Rattle.dwarf_entries.proofs.units.Units.read.Goals as goal

pub returns-in_err-units-clause-units : goal.returns-in_err-units-clause-units
unfolding units_read
returns-in_err-units-clause-units c =
    let tables = rw c.as_slice.ensures.value at c.in_ok-tables.ensures.ok in
    rw (exit _ c.from_residual-in_err-units.ensures.1, c.in_ok-headers.ensures, tables.1)
    (step-fault _ _ ((rw c.as_slice-headers.ensures.value at c.in_err-units.ensures.units) tables.0
    (in_section-ok DebugAbbrev _ tables.0 tables.1)))

pub returns-in_err-bases-clause-units : goal.returns-in_err-bases-clause-units
unfolding units_read
returns-in_err-bases-clause-units c =
    let tables = rw c.as_slice.ensures.value at c.in_ok-tables.ensures.ok in
    let units = (rw c.as_slice-headers.ensures.value at c.in_ok-units.ensures.units) tables.0
    (in_section-ok DebugAbbrev _ tables.0 tables.1) in
    let fault = exit _ c.from_residual-in_err-bases.ensures.1 in
    rw (fault, c.in_ok-headers.ensures, tables.1, units.1)
    ((rw c.as_slice-2.ensures.value at c.in_err-bases.ensures) units.0 units.2.0)

pub invariant_of-result : goal.invariant_of-result
unfolding units_read
invariant_of-result c =
    let s = sections_of c.args.sections.now in
    let tables = rw c.as_slice.ensures.value at c.in_ok-tables.ensures.ok in
    let units = (rw c.as_slice-headers.ensures.value at c.in_ok-units.ensures.units) tables.0
    (in_section-ok DebugAbbrev _ tables.0 tables.1) in
    let all = (rw c.as_slice-2.ensures.value at c.in_ok-bases.ensures) units.0 units.2.0 in
    let stay = bases-stay (λ _ (dies : List Die). dies) s _ units.0 all.0 all.1 in
    rw (c.in_ok-headers.ensures, tables.1, units.1, all.1) (record {
      stored_are = units.2.0 ∙ sym (bases-stay stored_unit s _ units.0 all.0 all.1);
      bitmap_is = λ at. rw (units.2.1 at, c.in_ok-bitmap.ensures at, stay) refl;
      bases_are = all.2;
      strings_are = c.of.ensures;
      reader_is = c.new-2.ensures;
      cache_is = λ slot packed is. let empty = c.new-3.ensures slot in cc;
    })

pub returns-clause-units : goal.returns-clause-units
unfolding units_read
returns-clause-units c =
    let tables = rw c.as_slice.ensures.value at c.in_ok-tables.ensures.ok in
    let units = (rw c.as_slice-headers.ensures.value at c.in_ok-units.ensures.units) tables.0
    (in_section-ok DebugAbbrev _ tables.0 tables.1) in
    let all = (rw c.as_slice-2.ensures.value at c.in_ok-bases.ensures) units.0 units.2.0 in
    rw (c.in_ok-headers.ensures, tables.1, units.1, all.1) refl
