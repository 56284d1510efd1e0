use Rattle.std.proofs.Common.{◌≡◌, ◌++◌, map, take}
use Rattle.addr_table.specs.Private.StartLists.{start_of_low}
use Rattle.addr_table.proofs.start_list.expand.Given as goal

abbrev pub invariant-loop-start : goal.invariant-loop-start
invariant-loop-start l = l.starts.items
    ≡ l.initial.starts.items ++ map start_of_low (take l.start-index l.low)
