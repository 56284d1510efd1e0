use Rattle.std.proofs.Common.{arith, refl}
use Rattle.std.proofs.lemmas.Option.{slice_get-get_or}
use Rattle.dwarf_entries.proofs.UnitPasses.PassLaws.{exit, pass-none}
use Rattle.plain_scopes.proofs.UnitTurns.{tables-next, tables-fault, tables-end}
use Rattle.plain_scopes.proofs.units.tables.Goals as goal

pub loop-header-init : goal.loop-header-init
loop-header-init c =
    rw c.new-all.ensures.items (record { passed = pass-none; counted = omega arith })

pub returns-in_err-table : goal.returns-in_err-table
returns-in_err-table c = rw (exit _ c.from_residual.ensures.1)
    (tables-fault c.loop-header.invariant _ (slice_get-get_or _ _ _ c.loop-header-test.true)
    c.in_err-table.ensures.decodes)

pub loop-header-preserved : goal.loop-header-preserved
loop-header-preserved c = rw c.in_ok-push.ensures.items
    (tables-next c.loop-header.invariant _ c.in_ok-table.table _
    (slice_get-get_or _ _ _ c.loop-header-test.true) c.in_ok-table.ensures.decodes
    c.in_ok-table.ensures.counted)

pub returns : goal.returns
returns c = rw (tables-end c.loop-header.invariant c.loop-header-test.false) refl
