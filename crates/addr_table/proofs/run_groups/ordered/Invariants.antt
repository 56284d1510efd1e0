use Rattle.std.proofs.Common.{◌-◌, length}
use Rattle.addr_table.specs.Private.RowRuns.{AreOrderedTo}
use Rattle.addr_table.proofs.run_groups.ordered.Given as goal

abbrev pub invariant-loop-from : goal.invariant-loop-from
invariant-loop-from l = AreOrderedTo l.rows l.runs l.from l.ordered.items

abbrev pub decreases-loop-from : goal.decreases-loop-from
decreases-loop-from l = length l.runs - l.from
