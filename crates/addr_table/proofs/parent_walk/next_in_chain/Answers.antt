use Rattle.std.proofs.Common.{◌∙◌, suc, refl, sym, ap}
use Rattle.addr_table.specs.Private.Walks.{parent_codes, outermost, inlined}
use Rattle.addr_table.proofs.Chains.ChainEnds.{code-some, code-below}
use Rattle.addr_table.proofs.FrameWalks.WalkLaws.{pass}
use Rattle.addr_table.proofs.parent_walk.next_in_chain.Goals as goal
use Rattle.addr_table.proofs.parent_walk.next_in_chain.Goals.{then-number-top-via-then-number-top}
use Rattle.addr_table.proofs.parent_walk.next_in_chain.Goals.{}
use Rattle.addr_table.proofs.parent_walk.next_in_chain.Goals.{}
use Rattle.addr_table.proofs.parent_walk.next_in_chain.Goals.{}
use Rattle.addr_table.proofs.parent_walk.next_in_chain.Goals.{then-number-top-via-else-number-top+then-is_scope_at}

pub returns-then-number-top-clause-returned : goal.returns-then-number-top-clause-returned
returns-then-number-top-clause-returned c = elim c.then-number-top.branch [
  | then-number-top-via-then-number-top w ↦ outermost (ap suc w.if-number-top.true)
  | then-number-top-via-else-number-top+then-is_scope_at w ↦
      inlined c.in-Some.number refl w.if-number-top.false (λ d. sym (w.if-is_scope_at.ensures d))
]

pub loop-scope-preserved : goal.loop-scope-preserved
loop-scope-preserved c =
    let p = pass c.args.link c.args.scopes.now.scopes (parent_codes c.args.parents.now) _
    c.in-Some.number c.args.top c.requires.have (code-some _ _ c.in-Some.is)
    (code-below _ _ _ c.in-Some.is c.loop-scope.invariant.within) c.loop-scope.invariant.ends
    c.if-number-top.false (λ d. sym (c.if-is_scope_at.ensures d)) in
    rw c.parent-scope.ensures
    (record { within = p.within; chain = p.chain ∙ c.loop-scope.invariant.chain; ends = p.ends })
