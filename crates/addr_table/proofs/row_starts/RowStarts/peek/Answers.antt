use Rattle.std.proofs.Common.{rules}
use Rattle.addr_table.proofs.Endpoints.RowCursorLaws.{start-next}
use Rattle.addr_table.proofs.row_starts.RowStarts.peek.Goals as goal

pub returns : goal.returns
returns c =
    let next = start-next _ _ _ _ _ c.self.invariant.0 (search rules) in
    rw (← c.self.view_is, c.self.invariant.1.start_is)
    (next.0, next.1, c.self.invariant.1.few)
