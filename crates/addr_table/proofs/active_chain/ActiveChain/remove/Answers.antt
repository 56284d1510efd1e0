use Rattle.std.proofs.Common.{◌≡◌, ◌∙◌, ℕ, ◌-◌, ◌<◌, List, length, get_or, set, ap, subst, sym}
use Rattle.std.proofs.Common.{arith}
use Rattle.std.proofs.lemmas.List.{get_or-set_other, length-set}
use Rattle.addr_table.specs.declared.scope_chain.ChainScope.{ChainScope}
use Rattle.addr_table.specs.Private.ActiveChain.{AreFree, IsChained, counts_with_keys, keys_of}
use Rattle.addr_table.proofs.ActiveSet.ChainCounts.{counts-last, counts-length, counts-undone}
use Rattle.addr_table.proofs.ActiveSet.ChainCounts.{with_one}
use Rattle.addr_table.proofs.Chains.NestedChains.{chained-found, chained-free, chained-less}
use Rattle.addr_table.proofs.Chains.NestedChains.{chained-row, chained-set}
use Rattle.addr_table.proofs.Chains.NestedChains.{keys-last, row-count, row-set}
use Rattle.addr_table.proofs.active_chain.ActiveChain.remove.Goals as goal

pub remove-requires-clause-some : goal.remove-requires-clause-some
remove-requires-clause-some c =
    let a = c.self.inside in
    let some : 0 < get_or (counts_with_keys (keys_of a.chain.items) a.ranges.counts) c.args.key 0 =
    rw (← c.self.view_is) at c.requires.some in
    omega (
      arith,
      some,
      row-count a.rows _ a.chain.items a.ranges.counts c.args.key
          c.self.invariant.nested c.if-key-self.true,
    )

pub returns-then-key-self-clause-counts : goal.returns-then-key-self-clause-counts
returns-then-key-self-clause-counts c =
    let a = c.self.inside in
    let keys = keys_of a.chain.items in
    rw (← c.self.view_is) (ap (counts_with_keys keys) c.remove.ensures.counts
    ∙ row-set a.rows _ a.chain.items a.ranges.counts c.args.key _ c.self.invariant.nested
    c.if-key-self.true
    ∙ ap (λ n. set (counts_with_keys keys a.ranges.counts) c.args.key (n - 1))
    (sym (row-count a.rows _ a.chain.items a.ranges.counts c.args.key c.self.invariant.nested
    c.if-key-self.true)))

pub invariant_of-self-then-pop_key : goal.invariant_of-self-then-pop_key
invariant_of-self-then-pop_key c =
    let a = c.self.inside in
    let popped = c.pop_key.ensures.popped c.if-pop_key.true in
    let C : List ChainScope → List ℕ → Type 0 = λ chain counts.
    IsChained a.rows a.scopes.now.scopes chain counts a.has_scopes a.is_found a.innermost in
    subst (C c.pop_key.new.chain.items) (sym c.count_call.ensures.counts)
    (chained-less a.rows _ c.pop_key.new.chain.items popped.0 _ _ _ _
    (subst (λ chain. C chain a.ranges.counts) popped.2 c.self.invariant))

pub returns-then-pop_key-clause-counts : goal.returns-then-pop_key-clause-counts
returns-then-pop_key-clause-counts c =
    let a = c.self.inside in
    let popped = c.pop_key.ensures.popped c.if-pop_key.true in
    let rest = counts_with_keys (keys_of c.pop_key.new.chain.items) a.ranges.counts in
    let with_last : counts_with_keys (keys_of a.chain.items) a.ranges.counts
    ≡ with_one rest c.args.key =
    ap (λ chain. counts_with_keys (keys_of chain) a.ranges.counts) popped.2
    ∙ ap (λ keys. counts_with_keys keys a.ranges.counts)
    (keys-last c.pop_key.new.chain.items popped.0)
    ∙ counts-last (keys_of c.pop_key.new.chain.items) popped.0.key a.ranges.counts
    ∙ ap (with_one rest) popped.1 in
    let lt : c.args.key < length (counts_with_keys (keys_of a.chain.items) a.ranges.counts) =
    rw (← c.self.view_is) at c.requires.key in
    let within : c.args.key < length rest = omega (
      arith,
      lt,
      counts-length (keys_of a.chain.items) a.ranges.counts,
      counts-length (keys_of c.pop_key.new.chain.items) a.ranges.counts,
    ) in
    rw (← c.self.view_is)
    (ap (counts_with_keys (keys_of c.pop_key.new.chain.items)) c.count_call.ensures.counts
    ∙ sym (counts-undone rest c.args.key within)
    ∙ ap (λ (counts : List ℕ). set counts c.args.key (get_or counts c.args.key 0 - 1))
    (sym with_last))

pub put_chain-requires : goal.put_chain-requires
put_chain-requires c = record {
  keys = subst (λ chain. AreFree (keys_of chain) c.self.inside.ranges.counts)
      (sym (c.pop_key.ensures.kept c.if-pop_key.false).0)
      (chained-free _ _ _ _ _ _ _ c.self.invariant);
}

pub invariant_of-self : goal.invariant_of-self
invariant_of-self c =
    chained-row _ c.args.key _ _ _ _ _ _ _ c.self.invariant c.if-key-self.true
    (λ k other. ap (λ (cs : List ℕ). get_or cs k 0) c.remove.ensures.counts
    ∙ get_or-set_other _ c.args.key k _ 0 other)
    (ap length c.remove.ensures.counts ∙ length-set _ _ _)

pub invariant_of-self-2 : goal.invariant_of-self-2
invariant_of-self-2 c =
    chained-set _ _ _ _ _ _ _ _ _ _ c.self.invariant c.put_chain.ensures.chain
    (ap length c.remove-2.ensures.counts ∙ length-set _ _ _
    ∙ ap length c.put_chain.ensures.counts
    ∙ counts-length (keys_of c.pop_key.new.chain.items) c.self.inside.ranges.counts)
    (λ is. chained-found _ c.args.key _ _ _ _ _ _ _ _ c.new-watched.result c.self.invariant
    c.new-watched.ensures (sym c.stays_found-self-inside.ensures ∙ is)
    (c.put_chain.ensures.counts ∙ ap (λ chain. counts_with_keys (keys_of chain)
    c.self.inside.ranges.counts) (c.pop_key.ensures.kept c.if-pop_key.false).0)
    (λ k other. ap (λ (cs : List ℕ). get_or cs k 0) c.remove-2.ensures.counts
    ∙ get_or-set_other _ c.args.key k _ 0 other))
