use Rattle.std.proofs.Common.{◌≡◌, ◌++◌, length}
use Rattle.addr_table.specs.Private.RowRuns.{rows_of_rest, rows_of_run}
use Rattle.addr_table.proofs.run_groups.add_rows.Given as goal

abbrev pub invariant-loop-rest : goal.invariant-loop-rest
invariant-loop-rest l = l.order.items ++ rows_of_rest l.rows l.rest
    ≡ l.initial.order.items ++ rows_of_run l.rows l.fn.run

abbrev pub decreases-loop-rest : goal.decreases-loop-rest
decreases-loop-rest l = length (rows_of_rest l.rows l.rest)
