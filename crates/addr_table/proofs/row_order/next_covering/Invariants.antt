use Rattle.std.proofs.Common.{◌≡◌, ◌-◌, length}
use Rattle.addr_table.specs.Private.RowOrder.{covering_at}
use Rattle.addr_table.proofs.row_order.next_covering.Given as goal

abbrev pub invariant-loop-number : goal.invariant-loop-number
invariant-loop-number l = covering_at l.rows l.number ≡ covering_at l.rows l.from

abbrev pub decreases-loop-number : goal.decreases-loop-number
decreases-loop-number l = length l.rows - l.number
