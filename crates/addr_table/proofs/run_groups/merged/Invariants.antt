use Rattle.std.proofs.Common.{◌≡◌, take}
use Rattle.addr_table.specs.Private.RowRuns.{rows_in}
use Rattle.addr_table.proofs.run_groups.merged.Given as goal

abbrev pub invariant-loop-index : goal.invariant-loop-index
invariant-loop-index l = l.order.items ≡ rows_in l.rows (take l.index l.group)
