use Rattle.std.proofs.Common.{◌≤◌, length}
use Rattle.addr_table.specs.Private.Walks.{parent_code}
use Rattle.addr_table.proofs.Chains.TopLaws.{IsTop}
use Rattle.addr_table.proofs.parent_walk.top.Given as goal

abbrev pub invariant-loop-scope : goal.invariant-loop-scope
invariant-loop-scope l = record {
  within : parent_code l.scope ≤ length l.scopes.scopes;
  found : IsTop l.link l.scopes.scopes (parent_code l.fn.scope) (parent_code l.scope) l.found;
}

abbrev pub decreases-loop-scope : goal.decreases-loop-scope
decreases-loop-scope l = parent_code l.scope
