use Rattle.std.proofs.Common.{◌+◌, ◌-◌, length}
use Rattle.addr_table.specs.Private.Buckets.{Fills}
use Rattle.addr_table.proofs.buckets.fill.Given as goal

abbrev pub invariant-loop-counts : goal.invariant-loop-counts
invariant-loop-counts l = Fills l.initial.counts.items l.counts.items l.bucket l.index

abbrev pub decreases-loop-counts : goal.decreases-loop-counts
decreases-loop-counts l = (l.bucket + 1) - length l.counts.items
