use Rattle.std.proofs.Common.{◌≤◌, length}
use Rattle.addr_table.specs.Private.Buckets.{AreBuckets}
use Rattle.addr_table.proofs.buckets.counts_of.Given as goal

abbrev pub invariant-loop-index : goal.invariant-loop-index
invariant-loop-index l = record {
  buckets : AreBuckets l.list l.low l.shift l.index l.counts.items;
  within : l.index ≤ length l.list;
}
