use Rattle.addr_table.proofs.Endpoints.SequenceRunLaws.{run-begun, run-risen}
use Rattle.addr_table.proofs.sequence_runs.run_from.Goals as goal

pub loop-last-init : goal.loop-last-init
loop-last-init c = run-begun c.args.rows.now c.args.first c.requires.within

pub loop-last-preserved : goal.loop-last-preserved
loop-last-preserved c =
    run-risen c.args.rows.now c.args.first c.loop-last.last c.loop-last.invariant
    (c.rises_after.ensures c.loop-last-test.true)
