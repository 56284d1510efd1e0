use Rattle.std.proofs.Common.{arith}
use Rattle.addr_table.proofs.Endpoints.RowRunLaws.{rest-over, rest-some}
use Rattle.addr_table.proofs.row_runs.rest_of.Goals as goal

pub returns-then-first-run : goal.returns-then-first-run
returns-then-first-run c =
    rest-over c.args.rows.now c.args.run _ c.in_ok-first.ensures.1 c.if-first-run.true

pub returns : goal.returns
returns c =
    rw (c.narrow.ensures)
    (rest-some c.args.rows.now c.args.run _ c.in_ok-first.ensures.1
    (omega (arith, c.if-first-run.false)))
