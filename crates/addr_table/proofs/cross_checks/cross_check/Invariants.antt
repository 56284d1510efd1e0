use Rattle.addr_table.proofs.Decoding.CrossCheckLaws.{UnitsSoFar}
use Rattle.addr_table.proofs.cross_checks.cross_check.Given as goal

abbrev pub invariant-loop-root : goal.invariant-loop-root
invariant-loop-root l = UnitsSoFar l.lines l.scopes.scopes l.scopes.roots l.root-index
