use Rattle.std.proofs.Common.{arith}
use Rattle.addr_table.specs.Private.RowRuns.{no_run}
use Rattle.addr_table.proofs.Endpoints.RunGroupLaws.{merged-appended, one-appended, only-one}
use Rattle.addr_table.proofs.run_groups.add_group.Goals as goal

pub returns-then-group-eq1 : goal.returns-then-group-eq1
returns-then-group-eq1 c =
    one-appended c.args.rows.now _ c.args.group.now _ _
    (only-one c.args.group.now (search (arith, c.if-group-eq1.true)))
    c.in_ok-push.ensures.items (c.requires.ascend 0 no_run (search (arith, c.if-group-eq1.true)))

pub returns : goal.returns
returns c =
    merged-appended _ _ _ _ _ c.in_ok-runs.ensures c.in_ok-append.ensures.items
