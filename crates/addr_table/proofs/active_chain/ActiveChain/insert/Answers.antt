use Rattle.std.proofs.Common.{◌≡◌, ◌≢◌, ◌∙◌, ℕ, ◌+◌, ◌-◌, ◌<◌, ◌^◌, List, length, get_or, set, ap}
use Rattle.std.proofs.Common.{subst, sym, arith}
use Rattle.std.specs.Prelude.{Result, Ok, Err, OnOk, OnErr}
use Rattle.std.proofs.lemmas.List.{get_or-set_other, length-set}
use Rattle.addr_table.specs.declared.scope_chain.ChainScope.{ChainScope}
use Rattle.addr_table.specs.Private.ActiveChain.{IsChained, counts_with_keys, keys_of}
use Rattle.addr_table.proofs.ActiveSet.ChainCounts.{counts-last, counts-length, with_one}
use Rattle.addr_table.proofs.Chains.NestedChains.{chained-found, chained-free, chained-more}
use Rattle.addr_table.proofs.Chains.NestedChains.{chained-row, chained-set}
use Rattle.addr_table.proofs.Chains.NestedChains.{keys-last, row-count, row-set}
use Rattle.addr_table.proofs.active_chain.ActiveChain.insert.Goals as goal

-- an insertion does not change the number of counts
length-kept : {X E : Type 0} (r : Result X E) (new old : List ℕ) (key v : ℕ)
    → OnOk r (new ≡ set old key v) → OnErr r (new ≡ old) → length new ≡ length old
length-kept (Ok x) new old key v ok err = ap length ok ∙ length-set old key v
length-kept (Err e) new old key v ok err = ap length err

others-kept : {X E : Type 0} (r : Result X E) (new old : List ℕ) (key v : ℕ)
    → OnOk r (new ≡ set old key v) → OnErr r (new ≡ old)
    → (k : ℕ) → k ≢ key → get_or new k 0 ≡ get_or old k 0
others-kept (Ok x) new old key v ok err k other =
    ap (λ (cs : List ℕ). get_or cs k 0) ok ∙ get_or-set_other old key k v 0 other
others-kept (Err e) new old key v ok err k other = ap (λ (cs : List ℕ). get_or cs k 0) err

moved : {X E : Type 0} (r : Result X E) (P Q : Type 0) → (P → Q) → OnOk r P → OnOk r Q
moved (Ok x) P Q f p = f p
moved (Err e) P Q f p = tt

pub insert-requires-clause-fits : goal.insert-requires-clause-fits
insert-requires-clause-fits c =
    let a = c.self.inside in
    let fits : get_or (counts_with_keys (keys_of a.chain.items) a.ranges.counts) c.args.key 0
    < 2 ^ 32 - 1 = rw (← c.self.view_is) at c.requires.fits in
    omega (
      arith,
      fits,
      row-count a.rows _ a.chain.items a.ranges.counts c.args.key
          c.self.invariant.nested c.if-key-self.true,
    )

pub returns-then-key-self-clause-counts : goal.returns-then-key-self-clause-counts
returns-then-key-self-clause-counts c =
    let a = c.self.inside in
    let keys = keys_of a.chain.items in
    rw (← c.self.view_is) (moved c.insert.result _ _ (λ is.
    ap (counts_with_keys keys) is
    ∙ row-set a.rows _ a.chain.items a.ranges.counts c.args.key _ c.self.invariant.nested
    c.if-key-self.true
    ∙ ap (λ n. set (counts_with_keys keys a.ranges.counts) c.args.key (n + 1))
    (sym (row-count a.rows _ a.chain.items a.ranges.counts c.args.key c.self.invariant.nested
    c.if-key-self.true))) c.insert.ensures.counts)

pub inner-requires-clause-key : goal.inner-requires-clause-key
inner-requires-clause-key c =
    let a = c.self.inside in
    let keys = keys_of a.chain.items in
    let lt : c.args.key < length (counts_with_keys keys a.ranges.counts) =
    rw (← c.self.view_is) at c.requires.key in (
      c.if-key-self.false,
      omega (arith, lt, counts-length keys a.ranges.counts, c.self.invariant.len),
    )

pub invariant_of-self-2 : goal.invariant_of-self-2
invariant_of-self-2 c =
    let a = c.self.inside in
    let C : List ChainScope → List ℕ → Type 0 = λ chain counts.
    IsChained a.rows a.scopes.now.scopes chain counts a.has_scopes a.is_found a.innermost in
    subst (λ chain. C chain c.count_call.new.self.counts) (sym c.in_ok-push.ensures.items)
    (subst (C _) (sym c.count_call.ensures.counts)
    (chained-more a.rows _ a.chain.items _ _ a.has_scopes _ _ c.if-not-self.true
    c.self.invariant (rw (← c.deref.ensures.value) c.in-Some.ensures.some.1)))

pub returns-clause-counts : goal.returns-clause-counts
returns-clause-counts c =
    let a = c.self.inside in
    let scope = c.in-Some.scope in
    let counts = a.ranges.counts in
    rw (← c.self.view_is)
    (ap (counts_with_keys (keys_of c.push.new.self.items)) c.count_call.ensures.counts
    ∙ ap (λ chain. counts_with_keys (keys_of chain) counts) c.in_ok-push.ensures.items
    ∙ ap (λ keys. counts_with_keys keys counts) (keys-last a.chain.items scope)
    ∙ counts-last (keys_of a.chain.items) scope.key counts
    ∙ ap (with_one (counts_with_keys (keys_of a.chain.items) counts)) c.in-Some.ensures.some.0)

pub put_chain-requires : goal.put_chain-requires
put_chain-requires c = record {
  keys = chained-free _ _ _ _ _ _ _ c.self.invariant;
}

pub invariant_of-self : goal.invariant_of-self
invariant_of-self c =
    let set = c.insert.ensures in
    chained-row _ c.args.key _ _ _ _ _ _ _ c.self.invariant c.if-key-self.true
    (others-kept c.insert.result _ _ c.args.key _ set.counts set.unchanged)
    (length-kept c.insert.result _ _ c.args.key _ set.counts set.unchanged)

pub invariant_of-self-3 : goal.invariant_of-self-3
invariant_of-self-3 c =
    let set = c.insert-2.ensures in
    chained-set _ _ _ _ _ _ _ _ _ _ c.self.invariant c.put_chain.ensures.chain
    (length-kept c.insert-2.result _ _ c.args.key _ set.counts set.unchanged
    ∙ ap length c.put_chain.ensures.counts
    ∙ counts-length (keys_of c.self.inside.chain.items) c.self.inside.ranges.counts)
    (λ is. chained-found _ c.args.key _ _ _ _ _ _ _ _ c.new-watched.result c.self.invariant
    c.new-watched.ensures (sym c.stays_found-self-inside.ensures ∙ is) c.put_chain.ensures.counts
    (others-kept c.insert-2.result _ _ c.args.key _ set.counts set.unchanged))
