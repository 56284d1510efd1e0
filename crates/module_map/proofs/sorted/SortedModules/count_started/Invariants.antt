use Rattle.std.proofs.Common.{◌-◌}
use Rattle.module_map.proofs.Searches.{Narrowed}
use Rattle.module_map.proofs.sorted.SortedModules.count_started.Given as goal

abbrev pub invariant-loop-low : goal.invariant-loop-low
invariant-loop-low l = Narrowed l.self l.address l.low l.high l.fn.steps l.steps

abbrev pub decreases-loop-low : goal.decreases-loop-low
decreases-loop-low l = l.high - l.low
