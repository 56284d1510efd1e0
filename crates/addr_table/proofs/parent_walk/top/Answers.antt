use Rattle.std.proofs.Common.{ℕ, true, false, subst}
use Rattle.addr_table.specs.Private.Walks.{parent_code, parent_codes}
use Rattle.addr_table.proofs.Chains.TopLaws.{IsTop, top-more}
use Rattle.addr_table.proofs.Chains.ChainEnds.{parent-within, code-some, code-below}
use Rattle.addr_table.proofs.parent_walk.top.Goals as goal
use Rattle.addr_table.proofs.parent_walk.top.Goals.{then-is_scope_at, else-is_scope_at}

pub loop-scope-preserved : goal.loop-scope-preserved
loop-scope-preserved c =
    let lt = code-below _ _ _ c.in-Some.is c.loop-scope.invariant.within in
    let here = subst (λ (n : ℕ). IsTop c.args.link c.args.scopes.now.scopes
    (parent_code c.args.scope) n c.loop-scope.found)
    (code-some _ _ c.in-Some.is) c.loop-scope.invariant.found in
    record {
      within = rw c.parent-scope.ensures (parent-within _ _ _ c.requires.have lt);
      found =
          rw c.parent-scope.ensures
          (elim c.if-is_scope_at.branch [
            | then-is_scope_at w ↦
                rw w.found-is
                (top-more c.args.link c.args.scopes.now.scopes (parent_codes c.args.parents.now)
                _ _ _ true c.requires.have lt here w.if-is_scope_at.ensures)
            | else-is_scope_at w ↦
                rw w.found-is
                (top-more c.args.link c.args.scopes.now.scopes (parent_codes c.args.parents.now)
                _ _ _ false c.requires.have lt here w.if-is_scope_at.ensures)
          ]);
    }
