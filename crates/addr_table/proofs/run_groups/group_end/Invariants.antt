use Rattle.std.proofs.Common.{ℕ, ◌<◌, ◌≤◌, ◌-◌, length}
use Rattle.addr_table.specs.Private.RowRuns.{run_high}
use Rattle.addr_table.proofs.run_groups.group_end.Given as goal

abbrev pub invariant-loop-index : goal.invariant-loop-index
invariant-loop-index l = (l.from < l.index) × (l.index ≤ length l.runs)
    × ((k : ℕ) → l.from ≤ k → k < l.index → run_high l.rows l.runs k ≤ l.high)

abbrev pub decreases-loop-index : goal.decreases-loop-index
decreases-loop-index l = length l.runs - l.index
