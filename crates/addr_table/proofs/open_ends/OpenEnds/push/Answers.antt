use Rattle.addr_table.proofs.Endpoints.FirstEnds.{heap-more}
use Rattle.addr_table.proofs.open_ends.OpenEnds.push.Goals as goal

pub returns : goal.returns
returns c =
    rw (← c.self.view_is) (heap-more c.self.inside.row _ _ _ c.in_ok-push.ensures)
