use Rattle.std.proofs.Common.{refl}
use Rattle.std.proofs.lemmas.Option.{slice_get_read}
use Rattle.dwarf_units.proofs.TableLaws.{in_section-ok}
use Rattle.dwarf_entries.proofs.UnitPasses.PassLaws.{exit, pass-none, pass-next, pass-fault}
use Rattle.dwarf_entries.proofs.UnitPasses.PassLaws.{pass-end}
use Rattle.dwarf_bytes.specs.declared.fault.Section.TheVariants.{DebugInfo}
use Rattle.plain_scopes.proofs.units.all_bases.Goals as goal

pub loop-unit-init : goal.loop-unit-init
loop-unit-init c = rw c.new-units.ensures.items pass-none

pub returns-in_err-with_bases : goal.returns-in_err-with_bases
returns-in_err-with_bases c =
    rw (exit _ c.from_residual.ensures.1) (pass-fault c.loop-unit.invariant _
    (slice_get_read _ _ _ c.unit-item.result refl c.loop-unit-test.true c.unit-item.is)
    c.in_err-with_bases.ensures)

pub loop-unit-preserved : goal.loop-unit-preserved
loop-unit-preserved c =
    rw c.in_ok-push.ensures.items (pass-next c.loop-unit.invariant _ c.in_ok-with_bases.field-0
    (slice_get_read _ _ _ c.unit-item.result refl c.loop-unit-test.true c.unit-item.is)
    (in_section-ok DebugInfo _ _ c.in_ok-with_bases.ensures))

pub returns : goal.returns
returns c = rw (pass-end c.loop-unit.invariant c.loop-unit-test.false) refl
