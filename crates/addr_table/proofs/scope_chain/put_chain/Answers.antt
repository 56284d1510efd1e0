use Rattle.std.proofs.Common.{◌≡◌, ◌∙◌, ℕ, ◌+◌, ◌<◌, [], ◌∷◌, length, drop}
use Rattle.std.proofs.Common.{refl, ap, sym, subst, arith}
use Rattle.std.proofs.lemmas.List.{drop_all, drop_more, get_or-map, length-map}
use Rattle.addr_table.specs.declared.scope_chain.ChainScope.{ChainScope}
use Rattle.addr_table.specs.Private.ActiveChain.{AreFree, counts_with_keys, keys_of}
use Rattle.addr_table.proofs.scope_chain.put_chain.Goals as goal
use Rattle.addr_table.proofs.scope_chain.put_chain.Goals.{After-index}

-- the next key, and the keys after it
next : (c : After-index) → drop c.loop-index.index (keys_of c.args.chain.now.items)
    ≡ c.index.result.now.key ∷ drop (c.loop-index.index + 1) (keys_of c.args.chain.now.items)
next c =
    let chain = c.args.chain.now.items in
    let keys = keys_of chain in
    let key : ChainScope → ℕ = λ s. s.key in
    let lt : c.loop-index.index < length chain =
    omega (arith, c.loop-index-test.true, c.len-index-end.ensures) in
    drop_more keys c.loop-index.index c.index.result.now.key
    (omega (arith, lt, length-map chain key))
    ∙ ap (λ k. k ∷ drop (c.loop-index.index + 1) keys)
    (get_or-map key chain c.loop-index.index c.index.result.now c.index.result.now.key lt
    ∙ ap key (sym c.index.ensures))

free : (c : After-index) → AreFree (c.index.result.now.key
    ∷ drop (c.loop-index.index + 1) (keys_of c.args.chain.now.items)) c.loop-index.ranges.counts
free c = subst (λ keys. AreFree keys c.loop-index.ranges.counts) (next c)
    c.loop-index.invariant.free

pub loop-index-init : goal.loop-index-init
loop-index-init c = record { free = c.requires.keys; counts = refl; calls = refl }

pub put-requires-clause-key : goal.put-requires-clause-key
put-requires-clause-key c = (free (goal.at.put-requires-clause-key c).After-index).0

pub put-requires-clause-none : goal.put-requires-clause-none
put-requires-clause-none c = (free (goal.at.put-requires-clause-none c).After-index).1

pub loop-index-preserved : goal.loop-index-preserved
loop-index-preserved c =
    let a = (goal.at.loop-index-preserved c).After-index in
    let keys = drop (c.loop-index.index + 1) (keys_of c.args.chain.now.items) in
    record {
      free = subst (AreFree keys) (sym c.put.ensures.counts) (free a).2;
      counts = ap (counts_with_keys keys) c.put.ensures.counts
          ∙ ap (λ ks. counts_with_keys ks c.loop-index.ranges.counts) (sym (next a))
          ∙ c.loop-index.invariant.counts;
      calls = c.put.ensures.calls ∙ c.loop-index.invariant.calls;
    }

pub returns-clause-counts : goal.returns-clause-counts
returns-clause-counts c =
    let none : drop c.loop-index.index (keys_of c.args.chain.now.items) ≡ [] =
    drop_all c.loop-index.index (keys_of c.args.chain.now.items)
    (omega (
      arith,
      c.loop-index-test.false,
      c.len-index-end.ensures,
      length-map c.args.chain.now.items (λ (s : ChainScope). s.key),
    )) in
    ap (λ ks. counts_with_keys ks c.loop-index.ranges.counts) (sym none)
    ∙ c.loop-index.invariant.counts

pub returns-clause-calls : goal.returns-clause-calls
returns-clause-calls c = c.loop-index.invariant.calls
