use Rattle.std.proofs.Common.{arith, refl}
use Rattle.std.proofs.lemmas.Slice.Zip.{length-zip}
use Rattle.dwarf_units.proofs.TableLaws.{in_section-ok}
use Rattle.dwarf_entries.proofs.UnitPasses.PassLaws.{exit, pass-none, pass-next, pass-fault}
use Rattle.dwarf_entries.proofs.UnitPasses.PassLaws.{pass-end}
use Rattle.dwarf_bytes.specs.declared.fault.Section.TheVariants.{DebugInfo}
use Rattle.plain_scopes.proofs.UnitTurns.{pair-there}
use Rattle.plain_scopes.proofs.units.all_entries.Goals as goal

pub loop-index-init : goal.loop-index-init
loop-index-init c = rw c.new-units.ensures.items pass-none

pub returns-in_err-unit : goal.returns-in_err-unit
returns-in_err-unit c =
    let within = rw c.min-index-end.ensures at c.loop-index-test.true in
    rw (exit _ c.from_residual.ensures.1)
    (pass-fault c.loop-index.invariant _ (pair-there _ _ _ _ _ within c.index-tables-index.is)
    c.in_err-unit.ensures)

pub loop-index-preserved : goal.loop-index-preserved
loop-index-preserved c =
    let within = rw c.min-index-end.ensures at c.loop-index-test.true in
    rw c.in_ok-push.ensures.items (pass-next c.loop-index.invariant _ c.in_ok-unit.unit
    (pair-there _ _ _ _ _ within c.index-tables-index.is)
    (in_section-ok DebugInfo _ _ c.in_ok-unit.ensures))

pub returns : goal.returns
returns c =
    let sizes = length-zip c.args.headers.now c.args.tables.now in
    rw (pass-end c.loop-index.invariant
    (omega (arith, c.loop-index-test.false, c.min-index-end.ensures, sizes))) refl
