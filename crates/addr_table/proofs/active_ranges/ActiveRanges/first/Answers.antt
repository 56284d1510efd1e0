use Rattle.std.proofs.Common.{◌≡◌, ℕ, ◌+◌, ◌<◌, ◌≤◌, List, length, get_or, refl, sym, ap}
use Rattle.std.proofs.Common.{inl, inr, arith, rules}
use Rattle.std.specs.Prelude.{nat_lt, Option, Some, None, IfSome}
use Rattle.std.proofs.lemmas.Bool.{cases_eq}
use Rattle.std.proofs.lemmas.List.{get_or-set_other}
use Rattle.addr_table.specs.Private.ActiveRanges.{counts_with}
use Rattle.addr_table.specs.Private.Bits.{is_filled}
use Rattle.addr_table.proofs.ActiveSet.FirstLaws.{first-same, row-within}
use Rattle.addr_table.proofs.active_ranges.ActiveRanges.first.Goals as goal

-- it is not the key of a scope
other : (rows : ℕ) (row : Option ℕ) (counts : List ℕ) (k : ℕ)
    → IfSome row (λ r. (r < rows) × (r < length counts)) → rows ≤ k
    → is_filled counts k ≡ is_filled (counts_with row counts) k
other rows None counts k h le = refl
other rows (Some row) counts k h le = elim (cases_eq k row) [
  | inl same ↦ absurd (omega (arith, same, h.0, le))
  | inr differs ↦
      ap (λ n. nat_lt 0 n) (sym (get_or-set_other counts row k (get_or counts row 0 + 1) 0 differs))
]

pub returns-then-not-self-clause-first : goal.returns-then-not-self-clause-first
returns-then-not-self-clause-first c =
    let set = c.self.inside.set in
    rw (← c.self.view_is)
    (c.lower_of.ensures set.counts (row-within _ _ _ c.self.invariant.row_is)
    (λ k low high. c.self.invariant.none (search rules) k (omega (arith, high, c.if-to-self.true))))

pub returns-then-from-self-clause-first : goal.returns-then-from-self-clause-first
returns-then-from-self-clause-first c =
    let set = c.self.inside.set in
    let row = c.self.inside.row in
    rw (← c.self.view_is)
    (first-same (is_filled set.counts) (is_filled (counts_with row set.counts)) _ _ _
    (λ k low high. other _ row set.counts k c.self.invariant.row_is
    (omega (arith, low, c.if-from-self.true)))
    c.first-first.ensures.first)

pub returns-clause-first : goal.returns-clause-first
returns-clause-first c =
    let set = c.self.inside.set in
    rw (← c.self.view_is)
    (c.lower_of-2.ensures set.counts (row-within _ _ _ c.self.invariant.row_is)
    c.first-first.ensures.first)
