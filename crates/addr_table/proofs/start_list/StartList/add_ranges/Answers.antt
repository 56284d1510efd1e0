use Rattle.addr_table.proofs.Endpoints.StartTurns.{adding-same, adding-more, adding-end}
use Rattle.addr_table.proofs.Endpoints.StartTurns.{range-added}
use Rattle.addr_table.proofs.Endpoints.StartTurns.{ranges-end}
use Rattle.addr_table.proofs.start_list.StartList.add_ranges.Goals as goal

pub loop-range-preserved : goal.loop-range-preserved
loop-range-preserved c =
    adding-more _ _ _ _ _ _ (adding-same _ _ _ _ _
    (range-added _ _ _ _ c.loop-range-test.true) c.loop-range.invariant)
    c.in_ok-add.ensures

pub returns : goal.returns
returns c = adding-end _ _ _ _ (ranges-end _ _ _ c.loop-range-test.false) c.loop-range.invariant
