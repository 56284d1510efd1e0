use Rattle.dwarf_units.proofs
use proofs.{◌≡◌, ◌+◌, ◌-◌, ◌∙◌, arith, declarations_limit, length, sum_by, drop, drop_all}
use proofs.{drop_more, get_or, err_from_is_err_and, UnitHeader, checked-next, stays-next, table_for}
use proofs.{take_all}
use Rattle.dwarf_bytes.proofs.Items.EachLaws.{each-end, each-fault}
use Rattle.dwarf_units.specs.Units.{tables_of}
use Rattle.dwarf_units.proofs.tables.Tables.validate.Goals as goal

pub returns-in_err-validate_unit-clause-err : goal.returns-in_err-validate_unit-clause-err
unfolding tables_of
returns-in_err-validate_unit-clause-err c =
    let p = err_from_is_err_and c.from_residual-in_err-validate_unit.result
    c.from_residual-in_err-validate_unit.ensures.1 in
    let loop = c.loop-unit in
    let so_far = loop.invariant.checked in
    let units = c.args.units.now in
    let left = λ (d : UnitHeader). drop_more units loop.unit-index d c.loop-unit-test.true in
    let faults = λ (d : UnitHeader). each-fault (table_for c.args.section.now) so_far.made
    (get_or units loop.unit-index d) (drop (loop.unit-index + 1) units) in
    let budget : loop.left ≡ declarations_limit - sum_by length so_far.made =
    omega (arith, so_far.counted) in
    rw (p.1, p.2) (grind (arith, left, faults, budget, c.in_err-validate_unit.ensures.err))

pub loop-unit-preserved : goal.loop-unit-preserved
loop-unit-preserved c =
    let loop = c.loop-unit in
    let ensures = c.in_ok-validate_unit.ensures in
    let resolved = rw loop.invariant.section at ensures.ok in
    record {
      checked = checked-next c.args.section.now c.args.units.now loop.unit-index loop.left
          c.validate_unit.new.left _ resolved.0 loop.invariant.checked c.loop-unit-test.true
          resolved.1 resolved.2;
      section = ensures.section ∙ loop.invariant.section;
      limit = ensures.limit;
      stays = stays-next loop.tables c.validate_unit.new.self c.args.units.now loop.unit-index _
          ensures.grows ensures.section c.loop-unit-test.true ensures.stays loop.invariant.stays;
    }

pub returns-clause-ok : goal.returns-clause-ok
unfolding tables_of
returns-clause-ok c =
    let none = drop_all c.loop-unit.unit-index c.args.units.now in
    let all = each-end (table_for c.args.section.now) in
    (c.loop-unit.invariant.checked.made, grind (arith, none, all))

pub returns-clause-stays : goal.returns-clause-stays
returns-clause-stays c =
    rw (take_all c.loop-unit.unit-index c.args.units.now c.loop-unit-test.false)
    at c.loop-unit.invariant.stays
