use Rattle.std.proofs.Common.{length, ◌-◌}
use Rattle.dwarf_walk.{proofs.WalkTurns.WalkSoFar, specs.Private.Readers.state_of}
use Rattle.dwarf_walk.proofs.walk.walk_unit.Given as goal

abbrev pub invariant-loop-place : goal.invariant-loop-place
invariant-loop-place l = WalkSoFar l.info l.fn.header l.table.declarations l.fn.bitmap l.bitmap
    l.place (state_of l.walk l.depths)

abbrev pub decreases-loop-place : goal.decreases-loop-place
decreases-loop-place l = length l.unit - l.place
