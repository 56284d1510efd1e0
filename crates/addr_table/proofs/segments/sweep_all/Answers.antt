use Rattle.std.proofs.Common.{◌≡◌, ◌∙◌, ℕ, ◌+◌, length, ap, refl, subst, sym, arith}
use Rattle.std.proofs.lemmas.List.{length-replicate}
use Rattle.addr_table.specs.Private.ActiveChain.{SweptSet}
use Rattle.addr_table.specs.Private.{Merged.starts_in, Sweep.{AreStarts, reaches_of}}
use Rattle.addr_table.proofs.Endpoints.BuildLaws.{are-sorted, none-active, rows-sorted, start-keys}
use Rattle.addr_table.proofs.Endpoints.BuildLaws.{starts-merged}
use Rattle.addr_table.proofs.Decoding.FewLaws.{starts-few}
use Rattle.addr_table.proofs.segments.sweep_all.Goals as goal
use Rattle.addr_table.proofs.segments.sweep_all.Goals.{In_ok-active}

-- the number of keys
keys-are : (c : In_ok-active) → length c.in_ok-active.active.set.counts
    ≡ length c.args.rows.now + length c.args.scopes.now.scopes + length c.args.scopes.now.scopes
keys-are c =
    ap (λ (s : SweptSet). length s.set.counts) c.in_ok-active.ensures
    ∙ length-replicate {A = ℕ} (length c.args.rows.now + length c.args.scopes.now.scopes
    + length c.args.scopes.now.scopes) 0

-- the merged starts are those of all rows and scopes
starts-are : (c : In_ok-active) → AreStarts (reaches_of c.args.rows.now c.args.scopes.now.scopes)
    (starts_in c.new-starts.result)
starts-are c =
    let rows = rows-sorted c.args.rows.now _ c.requires.rows.permutation c.requires.rows.rise in
    let scopes = are-sorted _ _ _ _ refl c.requires.starts c.in_ok-of_scopes.ensures.permutation
    c.in_ok-of_scopes.ensures.rise in
    subst (AreStarts (reaches_of c.args.rows.now c.args.scopes.now.scopes))
    (sym c.new-starts.ensures.starts)
    (starts-merged c.args.rows.now c.args.scopes.now.scopes _ _ rows scopes)

pub sweep-requires-clause-starts : goal.sweep-requires-clause-starts
sweep-requires-clause-starts c =
    subst (λ scopes. AreStarts (reaches_of c.args.rows.now scopes) (starts_in c.new-starts.result))
    (sym (ap (λ (s : SweptSet). s.scopes) c.in_ok-active.ensures))
    (starts-are (goal.at.sweep-requires-clause-starts c).In_ok-active)

pub sweep-requires-clause-keys : goal.sweep-requires-clause-keys
sweep-requires-clause-keys c =
    start-keys c.args.rows.now c.args.scopes.now.scopes _ _ c.requires.order.numbered
    (starts-are (goal.at.sweep-requires-clause-keys c).In_ok-active)
    (omega (arith, keys-are (goal.at.sweep-requires-clause-keys c).In_ok-active))

pub sweep-requires-clause-empty : goal.sweep-requires-clause-empty
sweep-requires-clause-empty c =
    none-active _ _ (ap (λ (s : SweptSet). s.set) c.in_ok-active.ensures)

pub sweep-requires-clause-few : goal.sweep-requires-clause-few
sweep-requires-clause-few c = (
  omega (
    arith,
    c.requires.few.keys,
    ap (λ (s : SweptSet). length s.scopes) c.in_ok-active.ensures,
  ),
  starts-few c.args.rows.now c.args.scopes.now.scopes _ c.requires.few
      (starts-are (goal.at.sweep-requires-clause-few c).In_ok-active),
)
