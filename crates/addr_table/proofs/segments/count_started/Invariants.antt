use Rattle.std.proofs.Common.{◌-◌, ◌≤◌}
use Rattle.addr_table.proofs.Searching.SearchLaws.{Searching, Counted}
use Rattle.addr_table.proofs.segments.count_started.Given as goal

abbrev pub invariant-loop-low : goal.invariant-loop-low
invariant-loop-low l = record {
  searching : Searching l.list l.link l.low l.high;
  counted : Counted (l.initial.high - l.initial.low) (l.high - l.low) l.initial.steps l.steps;
  top : l.high ≤ l.initial.high;
}

abbrev pub decreases-loop-low : goal.decreases-loop-low
decreases-loop-low l = l.high - l.low
