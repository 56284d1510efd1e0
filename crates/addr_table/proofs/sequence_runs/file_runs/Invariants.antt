use Rattle.std.proofs.Common.{◌≡◌, ◌++◌, length}
use Rattle.std.specs.List.{All}
use Rattle.addr_table.specs.Private.RowOrder.{covering_at, covering_from}
use Rattle.addr_table.specs.Private.RowRuns.{Ascends, rows_in}
use Rattle.addr_table.proofs.sequence_runs.file_runs.Given as goal

abbrev pub invariant-loop-first : goal.invariant-loop-first
invariant-loop-first l =
    (rows_in l.rows l.runs.items ++ covering_at l.rows l.from ≡ covering_from 0 l.rows)
    × All (Ascends l.rows) l.runs.items

abbrev pub decreases-loop-first : goal.decreases-loop-first
decreases-loop-first l = length (covering_at l.rows l.from)
