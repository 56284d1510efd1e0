use Rattle.std.proofs.Common.{sym}
use Rattle.plain_scopes.proofs.ReferenceTurns.{element-here, none-before, unit-with}
use Rattle.plain_scopes.proofs.ReferenceTurns.{unit-without, no-unit}
use Rattle.plain_scopes.proofs.references.member_at.Goals as goal

pub loop-unit-init : goal.loop-unit-init
loop-unit-init c = none-before

pub returns-in-Some : goal.returns-in-Some
returns-in-Some c =
    let here = element-here _ _ _ c.loop-unit-test.true c.unit-item.is in
    sym (unit-with c.loop-unit.invariant _ here c.in-Some.member (sym c.in-Some.ensures))

pub loop-unit-preserved : goal.loop-unit-preserved
loop-unit-preserved c =
    let here = element-here _ _ _ c.loop-unit-test.true c.unit-item.is in
    unit-without c.loop-unit.invariant _ here (sym c.in_default.ensures)

pub returns : goal.returns
returns c = sym (no-unit c.loop-unit.invariant c.loop-unit-test.false)
