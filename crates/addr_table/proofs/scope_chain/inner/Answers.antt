use Rattle.std.proofs.Common.{◌≡◌, ◌∙◌, ℕ, ◌<◌, length, get_or, ap, sym, arith}
use Rattle.dwarf_entries.specs.Scopes.{Scope}
use Rattle.addr_table.proofs.Chains.ChainWalks.{end-within, no_scope}
use Rattle.addr_table.proofs.Chains.NestedChains.{inner-first, inner-inside, inner-next}
use Rattle.addr_table.proofs.scope_chain.inner.Goals as goal
use Rattle.addr_table.proofs.scope_chain.inner.Goals.{After-end_at, in-None, in-Some}

-- the number is that of a scope
below : (c : After-end_at) → c.match-last.number < length c.args.scopes.now.scopes
below c = elim c.match-last.branch [
  | in-None w ↦
      omega (arith, w.number-is, w.if-key-inlined.true, c.count.ensures.count, c.requires.key.0)
  | in-Some w ↦
      let inside = w.is_inside.ensures.inside w.if-is_inside.true in
      omega (arith, w.number-is, c.count.ensures.count, c.requires.key.1, inside.0)
]

pub narrow-requires-2 : goal.narrow-requires-2
narrow-requires-2 c =
    let at = end-within (length c.args.scopes.now.scopes) c.match-last.number
    c.args.scopes.now.scopes c.requires.order.numbered
    (below (goal.at.narrow-requires-2 c).After-end_at) in
    omega (arith, at.1, c.end_at.ensures no_scope, c.requires.few)

pub returns-clause-some : goal.returns-clause-some
returns-clause-some c =
    let number-below = below (goal.at.returns-clause-some c).After-end_at in
    let E : ℕ → Scope → Type 0 = λ n d. c.narrow-2.result
    ≡ (get_or c.args.scopes.now.scopes n d).«end» in
    let end_is : (d : Scope) → E c.narrow.result d = λ d. c.narrow-2.ensures ∙ c.end_at.ensures d
    ∙ ap (λ n. (get_or c.args.scopes.now.scopes n d).«end») (sym c.narrow.ensures) in (
      c.narrow-3.ensures,
      elim c.match-last.branch [
        | in-None w ↦ inner-first c.args.rows c.args.scopes.now.scopes c.args.chain.now _
            (omega (arith, w.in-None.ensures.item))
            (record {
              key_is = omega
                  (arith, c.narrow-3.ensures, c.narrow.ensures, w.number-is, c.requires.key.0);
              within = omega (arith, c.narrow.ensures, number-below);
              end_is = end_is;
            })
        | in-Some w ↦
            let item = w.in-Some.ensures.item in
            let inside = w.is_inside.ensures.inside w.if-is_inside.true in
            inner-next c.args.rows c.args.scopes.now.scopes c.args.chain.now w.in-Some.outer.now _
            item.3.0 item.1 (
              omega (arith, inside.0, c.narrow.ensures, w.number-is, c.count.ensures.count),
              omega (
                arith,
                inside.0,
                inside.1,
                c.narrow.ensures,
                w.number-is,
                c.count.ensures.count,
              ),
              record {
                key_is = omega (
                  arith,
                  inside.0,
                  c.narrow-3.ensures,
                  c.narrow.ensures,
                  w.number-is,
                  c.count.ensures.count,
                );
                within = omega (arith, c.narrow.ensures, number-below);
                end_is = end_is;
              },
              tt,
            )
      ],
    )

pub returns-in_default-2-clause-none : goal.returns-in_default-2-clause-none
returns-in_default-2-clause-none c = λ scope is h.
    let item = c.in-Some.ensures.item in
    let at = inner-inside c.args.rows c.args.scopes.now.scopes c.args.chain.now
    c.in-Some.outer.now scope item.3.0 item.1 h in
    let total = c.count.ensures.count in
    c.is_inside.ensures.outside c.if-is_inside.false
    (omega (arith, at.0, at.2.key_is, is, total)) (omega (arith, at.1, at.2.key_is, is, total))
