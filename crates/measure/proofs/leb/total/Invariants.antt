use Rattle.std.proofs.Common.{◌-◌, ◌≡◌, length}
use Rattle.measure.proofs.leb.total.Given as goal

abbrev pub invariant-loop-cursor : goal.invariant-loop-cursor
invariant-loop-cursor l = l.cursor.bytes ≡ l.bytes

abbrev pub decreases-loop-cursor : goal.decreases-loop-cursor
decreases-loop-cursor l = length l.bytes - l.cursor.place
