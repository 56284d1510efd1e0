use Rattle.std.proofs.Common.{map}
use Rattle.addr_table.proofs.Endpoints.StartTurns.{IsAdding, ranges_left}
use Rattle.addr_table.proofs.start_list.StartList.add_ranges.Given as goal

abbrev pub invariant-loop-range : goal.invariant-loop-range
invariant-loop-range l =
    IsAdding (ranges_left l.key l.range-index l.ranges)
    (map (λ r. record { key = l.key; range = r }) l.ranges) l.initial.self l.self
