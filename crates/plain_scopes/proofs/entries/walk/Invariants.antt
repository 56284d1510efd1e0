use Rattle.std.proofs.Common.{◌-◌, length}
use Rattle.plain_scopes.specs.Walk.{state_of}
use Rattle.plain_scopes.proofs.WalkTurns.{WalkSoFar}
use Rattle.plain_scopes.proofs.entries.walk.Given as goal

abbrev pub invariant-loop-place : goal.invariant-loop-place
invariant-loop-place l = WalkSoFar l.info l.header l.table l.place (state_of l.walk)

abbrev pub decreases-loop-place : goal.decreases-loop-place
decreases-loop-place l = length l.unit - l.place
