use Rattle.plain_scopes.proofs.ReferenceTurns.{NoneBefore}
use Rattle.plain_scopes.proofs.references.member_at.Given as goal

abbrev pub invariant-loop-unit : goal.invariant-loop-unit
invariant-loop-unit l = NoneBefore l.units l.offset l.unit-index
