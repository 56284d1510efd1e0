use Rattle.std.proofs.Common.{◌≡◌, ◌≤◌, ◌-◌, length}
use Rattle.command_loop.proofs.prefetch.Prefetch.read.Given as goal

abbrev pub invariant-loop-count : goal.invariant-loop-count
invariant-loop-count l = record {
  from : 1 ≤ l.count;
  to : l.count ≤ 8;
  len : length l.addresses ≡ 8;
}

abbrev pub decreases-loop-count : goal.decreases-loop-count
decreases-loop-count l = 8 - l.count
