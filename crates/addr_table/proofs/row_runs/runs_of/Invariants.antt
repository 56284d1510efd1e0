use Rattle.addr_table.proofs.Endpoints.RowRunLaws.{AreRunsTo}
use Rattle.addr_table.proofs.row_runs.runs_of.Given as goal

abbrev pub invariant-loop-index : goal.invariant-loop-index
invariant-loop-index l = AreRunsTo l.rows l.order l.index l.runs.items l.run
