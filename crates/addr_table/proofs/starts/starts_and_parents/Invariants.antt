use Rattle.std.proofs.Common.{◌≡◌, [], length}
use Rattle.addr_table.specs.Private.{Parents.AreParents, Sweep.scope_reaches, Walks.parent_codes}
use Rattle.addr_table.proofs.Endpoints.StartTurns.{IsAdding, scopes_left}
use Rattle.addr_table.proofs.starts.starts_and_parents.Given as goal

abbrev pub invariant-loop-number : goal.invariant-loop-number
invariant-loop-number l = record {
  starts : IsAdding (scopes_left l.rows (length l.scopes.scopes) l.number l.scopes.scopes)
      (scope_reaches l.rows (length l.scopes.scopes) l.scopes.scopes) [] l.starts;
  parents : AreParents l.scopes.scopes (parent_codes l.parents.items);
  len : length l.parents.items ≡ l.number;
}
