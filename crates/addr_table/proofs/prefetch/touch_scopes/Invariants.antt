use Rattle.std.proofs.Common.{◌≤◌, length}
use Rattle.addr_table.specs.Private.Walks.{parent_code}
use Rattle.addr_table.proofs.prefetch.touch_scopes.Given as goal

abbrev pub invariant-loop-scope : goal.invariant-loop-scope
invariant-loop-scope l = parent_code l.scope ≤ length l.tables.scopes.now.scopes

abbrev pub decreases-loop-scope : goal.decreases-loop-scope
decreases-loop-scope l = parent_code l.scope
