use Rattle.dwarf_entries.proofs
use proofs.{sections_of, arith, ◌≡◌, [], ◌∷◌, ◌++◌, refl, sym, ◌∙◌, map_push, in_section-ok}
use proofs.{UnitEntries, Sections, stored_of, CompilationUnit, stored_unit_of, DebugInfo, bases_in}
use proofs.{bases_of_first, first-fault, pass-next, pass-fault, pass-none, exit, stored-item}
use Rattle.dwarf_entries.proofs.passes.all_bases.Goals as goal

bases-same : (s : Sections) (u : CompilationUnit) (unit : UnitEntries)
    → stored_of unit ≡ stored_unit_of u
    → bases_in s unit.header.format unit.root ≡ bases_of_first s u.header.format u.dies
bases-same s u unit same = grind arith

pub loop-unit-init : goal.loop-unit-init
loop-unit-init c us same = rw c.new-all.ensures.items
    (record { made = []; passed = pass-none; bases_are = refl })

pub returns-in_err-unit_bases : goal.returns-in_err-unit_bases
returns-in_err-unit_bases c us same =
    let here = stored-item c.args.units.now us same c.loop-unit.unit-index c.unit-item.result
    c.loop-unit-test.true c.unit-item.is in
    rw (exit _ c.from_residual.ensures.1)
    (pass-fault (c.loop-unit.invariant us same).passed here.unit here.is (first-fault _ _
    (rw (bases-same (sections_of c.args.sections.now) here.unit c.unit-item.result here.stored)
    at c.in_err-unit_bases.ensures)))

pub loop-unit-preserved : goal.loop-unit-preserved
loop-unit-preserved c us same =
    let so_far = c.loop-unit.invariant us same in
    let unit = c.unit-item.result in
    let here = stored-item c.args.units.now us same c.loop-unit.unit-index unit
    c.loop-unit-test.true c.unit-item.is in
    let u = here.unit in
    let bases = c.in_ok-unit_bases.field-0 in
    let v : CompilationUnit = record { header = u.header; dies = u.dies; bases = bases } in
    let found = sym (bases-same (sections_of c.args.sections.now) u unit here.stored)
    ∙ in_section-ok DebugInfo _ bases c.in_ok-unit_bases.ensures in
    record {
      made = so_far.made ++ v ∷ [];
      passed = pass-next so_far.passed u v here.is (rw found refl);
      bases_are = grind (arith, c.in_ok-push.ensures.items, so_far.bases_are, map_push);
    }
