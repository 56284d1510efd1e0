use Rattle.addr_table.proofs.Endpoints.RunGroupLaws.{groups-more}
use Rattle.addr_table.proofs.run_groups.ordered.Goals as goal

pub loop-from-preserved : goal.loop-from-preserved
loop-from-preserved c =
    groups-more _ _ _ _ _ _ c.loop-from.invariant c.requires.ascend c.requires.rise
    c.loop-from-test.true c.group_end-end.ensures.within c.group_end-end.ensures.below
    c.in_ok-add_group.ensures
