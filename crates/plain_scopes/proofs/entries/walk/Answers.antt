use Rattle.std.proofs.Common.{arith}
use Rattle.plain_scopes.proofs.WalkTurns.{walk-none, walk-item, walk-end, walk-fault}
use Rattle.plain_scopes.proofs.entries.walk.Goals as goal

pub loop-place-init : goal.loop-place-init
loop-place-init c = walk-none _ _ _ c.new-walk.ensures

pub returns-in-Err : goal.returns-in-Err
returns-in-Err c =
    walk-fault _ _ _ c.of-unit.ensures c.loop-place.invariant c.loop-place-test.true
    (rw c.is_rooted-rooted.ensures at c.in-Err.ensures.node) c.at_item.ensures

pub loop-place-smaller : goal.loop-place-smaller
loop-place-smaller c =
    let next = walk-item _ _ _ c.of-unit.ensures c.loop-place.invariant c.loop-place-test.true
    (rw c.is_rooted-rooted.ensures at c.in-Ok.ensures.node) c.in_ok-add-in-Ok.ensures in
    omega (arith, next.0, next.1)

pub loop-place-preserved : goal.loop-place-preserved
loop-place-preserved c =
    (walk-item _ _ _ c.of-unit.ensures c.loop-place.invariant c.loop-place-test.true
    (rw c.is_rooted-rooted.ensures at c.in-Ok.ensures.node) c.in_ok-add-in-Ok.ensures).2

pub returns : goal.returns
returns c = walk-end _ _ _ c.of-unit.ensures c.loop-place.invariant c.loop-place-test.false
