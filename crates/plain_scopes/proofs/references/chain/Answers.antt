use Rattle.std.proofs.Common.{arith, inr, sym, ◌-◌}
use Rattle.dwarf_entries.proofs.UnitPasses.PassLaws.{exit}
use Rattle.plain_scopes.proofs.ReferenceTurns.{chain-deep, chain-end, chain-lost}
use Rattle.plain_scopes.proofs.ReferenceTurns.{chain-next, chain-none}
use Rattle.plain_scopes.proofs.references.chain.Goals as goal

pub loop-reference-init : goal.loop-reference-init
loop-reference-init c = rw c.new-path.ensures.items chain-none

pub returns-then-left-eq0 : goal.returns-then-left-eq0
returns-then-left-eq0 c = inr (chain-deep c.loop-reference.invariant c.in-Some.reference
    (sym (rw c.die.ensures at c.in-Some.ensures)) c.if-left-eq0.true)

pub returns-in_err-next : goal.returns-in_err-next
returns-in_err-next c = rw (exit _ c.from_residual.ensures.1)
    (inr (chain-lost c.loop-reference.invariant c.in-Some.reference
    (sym (rw c.die.ensures at c.in-Some.ensures)) (c.loop-reference.left - 1) _
    (omega (arith, c.if-left-eq0.false)) (sym (rw c.unit.ensures at c.in_err-next.ensures))))

pub loop-reference-preserved : goal.loop-reference-preserved
loop-reference-preserved c = rw c.in_ok-push.ensures.items
    (chain-next c.loop-reference.invariant c.in-Some.reference
    (sym (rw c.die.ensures at c.in-Some.ensures)) (c.loop-reference.left - 1) _
    (omega (arith, c.if-left-eq0.false)) (sym (rw c.unit.ensures at c.in_ok-next.ensures)))

pub returns : goal.returns
returns c = rw c.in_ok-push-2.ensures.items
    (chain-end c.loop-reference.invariant (sym (rw c.die.ensures at c.in_default.ensures)))
