use Rattle.std.proofs.Common.{◌-◌, length}
use Rattle.addr_table.specs.Private.RowRuns.{IsRunFrom}
use Rattle.addr_table.proofs.sequence_runs.run_from.Given as goal

abbrev pub invariant-loop-last : goal.invariant-loop-last
invariant-loop-last l = IsRunFrom l.rows l.first (record { first = l.first; last = l.last })

abbrev pub decreases-loop-last : goal.decreases-loop-last
decreases-loop-last l = length l.rows - l.last
