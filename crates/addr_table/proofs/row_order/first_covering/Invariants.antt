use Rattle.std.proofs.Common.{◌≡◌, ◌-◌, length}
use Rattle.addr_table.specs.Private.RowOrder.{sequence_at}
use Rattle.addr_table.proofs.row_order.first_covering.Given as goal

abbrev pub invariant-loop-number : goal.invariant-loop-number
invariant-loop-number l = sequence_at l.rows l.number ≡ sequence_at l.rows l.from

abbrev pub decreases-loop-number : goal.decreases-loop-number
decreases-loop-number l = length l.rows - l.number
