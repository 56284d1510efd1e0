use Rattle.plain_scopes.proofs.UnitTurns.{TablesSoFar}
use Rattle.plain_scopes.proofs.units.tables.Given as goal

abbrev pub invariant-loop-header : goal.invariant-loop-header
invariant-loop-header l = TablesSoFar l.section l.headers l.header-index l.left l.all.items
