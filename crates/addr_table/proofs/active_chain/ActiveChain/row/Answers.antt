use Rattle.std.proofs.Common.{ap, sym}
use Rattle.std.specs.Prelude.{nat_lt}
use Rattle.addr_table.specs.Private.ActiveChain.{counts_with_keys, keys_of}
use Rattle.addr_table.specs.Private.Bits.{is_filled}
use Rattle.addr_table.proofs.ActiveSet.ChainCounts.{counts-below}
use Rattle.addr_table.proofs.ActiveSet.FirstLaws.{first-same}
use Rattle.addr_table.proofs.Chains.NestedChains.{nested-above}
use Rattle.addr_table.proofs.active_chain.ActiveChain.row.Goals as goal

pub returns-clause-first : goal.returns-clause-first
returns-clause-first c =
    let a = c.self.inside in
    let keys = keys_of a.chain.items in
    rw (← c.self.view_is) (first-same (is_filled a.ranges.counts)
    (is_filled (counts_with_keys keys a.ranges.counts)) _ _ _
    (λ k low high. sym (ap (λ n. nat_lt 0 n) (counts-below keys k a.ranges.counts
    (nested-above a.rows _ a.chain.items k c.self.invariant.nested high))))
    c.first.ensures.first)
