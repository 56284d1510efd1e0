use Rattle.std.proofs.Common.{◌≡◌, ◌≤◌, length}
use Rattle.addr_table.specs.Private.Walks.{parent_code, chain_at, EndsAt}
use Rattle.addr_table.proofs.parent_walk.next_in_chain.Given as goal

abbrev pub invariant-loop-scope : goal.invariant-loop-scope
invariant-loop-scope l = record {
  within : parent_code l.scope ≤ length l.scopes.scopes;
  chain : chain_at l.link l.scopes.scopes (parent_code l.scope)
      ≡ chain_at l.link l.scopes.scopes (parent_code l.fn.scope);
  ends : EndsAt l.link l.scopes.scopes (parent_code l.scope) l.top;
}

abbrev pub decreases-loop-scope : goal.decreases-loop-scope
decreases-loop-scope l = parent_code l.scope
