use Rattle.std.proofs.Common.{◌≡◌, drop}
use Rattle.addr_table.specs.Private.ActiveChain.{AreFree, counts_with_keys, keys_of}
use Rattle.addr_table.proofs.scope_chain.put_chain.Given as goal

abbrev pub invariant-loop-index : goal.invariant-loop-index
invariant-loop-index l = record {
  free : AreFree (drop l.index (keys_of l.chain.items)) l.ranges.counts;
  counts : counts_with_keys (drop l.index (keys_of l.chain.items)) l.ranges.counts
      ≡ counts_with_keys (keys_of l.chain.items) l.fn.ranges.counts;
  calls : l.ranges.calls ≡ l.fn.ranges.calls;
}
