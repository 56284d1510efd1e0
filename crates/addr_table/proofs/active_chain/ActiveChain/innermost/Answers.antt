use Rattle.std.proofs.Common.{◌≡◌, ◌∙◌, ℕ, ◌<◌, length, ap, subst, sym}
use Rattle.std.specs.Prelude.{Option, IfSome}
use Rattle.addr_table.specs.Private.ActiveChain.{last_number}
use Rattle.addr_table.specs.Private.Sweep.{IsInnermost}
use Rattle.addr_table.proofs.Chains.NestedChains.{last-within, nested-filled, nested-innermost}
use Rattle.addr_table.proofs.active_chain.ActiveChain.innermost.Goals as goal
use Rattle.addr_table.proofs.active_chain.ActiveChain.innermost.Goals.{After-last_number}

-- the number that was found
number : (c : After-last_number) → last_number c.self.inside.chain.items ≡ c.last_number.result
number c = sym (c.last_number.ensures ∙ ap last_number c.deref.ensures.value)

pub returns-then-not-self-clause-scope : goal.returns-then-not-self-clause-scope
returns-then-not-self-clause-scope c =
    let a = c.self.inside in
    let scopes = a.scopes.now.scopes in
    rw (← c.self.view_is)
    (subst (IsInnermost a.rows scopes _)
    (number (goal.at.returns-then-not-self-clause-scope c).After-last_number)
    (nested-innermost a.rows scopes a.chain.items _ c.self.invariant.order.numbered
    c.self.invariant.nested (nested-filled a.rows scopes a.chain.items a.ranges.counts
    c.self.invariant.nested c.self.invariant.len (c.self.invariant.none c.if-not-self.true))))

pub returns-then-not-self-clause-within : goal.returns-then-not-self-clause-within
returns-then-not-self-clause-within c =
    let a = c.self.inside in
    let scopes = a.scopes.now.scopes in
    rw (← c.self.view_is)
    (subst (λ (n : Option ℕ). IfSome n (λ k. k < length scopes))
    (number (goal.at.returns-then-not-self-clause-within c).After-last_number)
    (last-within a.rows scopes a.chain.items c.self.invariant.nested))

pub returns-clause-more : goal.returns-clause-more
returns-clause-more c = λ n lt le.
    c.innermost-scope.ensures.more n lt (rw (← c.self.view_is) at le)
