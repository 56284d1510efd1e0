use Rattle.addr_table.proofs.ActiveSet.FirstLaws.{row-within}
use Rattle.addr_table.proofs.active_ranges.ActiveRanges.find.Goals as goal

pub returns : goal.returns
returns c = rw (← c.self.view_is) (c.lower_of.ensures c.self.inside.set.counts
    (row-within _ _ _ c.self.invariant.row_is) c.find.ensures)
