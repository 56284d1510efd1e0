-- The lowest end in a heap of ends.
use Rattle.std.proofs.Common.{◌≡◌, ℕ, ◌<◌, ◌≤◌, List, [], ◌∷◌, length, map, get_or, Bool, true}
use Rattle.std.proofs.Common.{false}
use Rattle.std.proofs.Common.{◌+◌, ◌||◌, cond, refl, ap, sym, subst, inl, inr, arith}
use Rattle.std.specs.Prelude.{◌==◌, nat_lt, sum_by}
use Rattle.std.specs.BinaryHeap.{IsUpperBound}
use Rattle.std.specs.List.{All, AllByRecursion, list_any}
use Rattle.std.specs.List.Sorted.{IsPermutation}
use Rattle.std.specs.Ordering.{nat_cmp, ordering_then, is_lt}
use Rattle.std.specs.declared.cmp.Ordering.{Ordering}
use Rattle.std.specs.declared.cmp.Ordering.TheVariants.{Less, Equal, Greater}
use Rattle.std.specs.declared.cmp.Reverse.{Reverse}
use Rattle.std.proofs.lemmas.Bool.{cases_eq, false≢true}
use Rattle.std.proofs.lemmas.Bool.Decides.{nat_tests}
use Rattle.std.proofs.lemmas.List.Elements.{All-from_recursion, recursion_from_All}
use Rattle.std.proofs.lemmas.List.Sums.{sum_by-cons}
use Rattle.std.proofs.lemmas.List.Sorted.{sum_by-IsPermutation}
use Rattle.std.proofs.lemmas.Map.Keys.{ge_from_not_lt}
use Rattle.addr_table.specs.declared.open_ends.End.{End}
use Rattle.addr_table.specs.Private.OpenEnds.{end_in, higher_first}

not-less : (a o : Ordering) → is_lt (ordering_then a o) ≡ false → is_lt a ≡ false
not-less Less o h = h
not-less Equal o h = refl
not-less Greater o h = refl

-- no end is below the first item
pub lowest-all : (x : Reverse (ℕ × ℕ)) (items : List (Reverse (ℕ × ℕ)))
    → IsUpperBound higher_first x items → All (λ (e : End). x.0.0 ≤ e.at) (map end_in items)
lowest-all x items h =
    All-from_recursion (λ (e : End). x.0.0 ≤ e.at) (map end_in items) (each items h)
  where
    each : (ys : List (Reverse (ℕ × ℕ))) → IsUpperBound higher_first x ys
        → AllByRecursion (λ (e : End). x.0.0 ≤ e.at) (map end_in ys)
    each [] h = tt
    each (y ∷ ys) h = (
      ge_from_not_lt y.0.0 x.0.0 (not-less (nat_cmp y.0.0 x.0.0) (nat_cmp y.0.1 x.0.1) h.0),
      each ys h.1,
    )

-- the first item is an end
pub lowest-any : (x : Reverse (ℕ × ℕ)) (items : List (Reverse (ℕ × ℕ))) → 0 < length items
    → x ≡ get_or items 0 x → list_any (λ e. e.at == x.0.0) (map end_in items) ≡ true
lowest-any x [] lt is = absurd (omega (arith, lt))
lowest-any x (y ∷ ys) lt is =
    let at : y.0.0 ≡ x.0.0 = ap (λ (r : Reverse (ℕ × ℕ)). r.0.0) (sym is) in
    let yes : (y.0.0 == x.0.0) ≡ true = grind (arith, nat_tests) in rw yes refl

-- a heap without a first item is empty
pub nothing : {X : Type 0} (xs : List X) → length xs ≤ 0 → xs ≡ []
nothing [] h = refl
nothing (x ∷ xs) h = absurd (omega (arith, h))

-- an open end at an address
pub any-at : (P : ℕ → Type 0) (f : ℕ) (ends : List End) → list_any (λ e. e.at == f) ends ≡ true
    → AllByRecursion (λ (e : End). P e.at) ends → P f
any-at P f [] h all = absurd (false≢true h)
any-at P f (e ∷ ends) h all = elim (cases_eq e.at f) [
  | inl same ↦ subst P same all.0
  | inr other ↦
      let no : (e.at == f) ≡ false = grind (arith, nat_tests) in
      any-at P f ends (rest (e.at == f) no h) all.1
]
  where
    rest : (b : Bool) → b ≡ false → (b || list_any (λ (e : End). e.at == f) ends) ≡ true
        → list_any (λ (e : End). e.at == f) ends ≡ true
    rest true is h = absurd (false≢true (sym is))
    rest false is h = h

-- the item that is taken is at or before each end
pub taken-low : (x : Reverse (ℕ × ℕ)) (items : List (Reverse (ℕ × ℕ))) (at end : ℕ)
    → IsUpperBound higher_first x items
    → list_any (λ e. e.at == at) (map end_in items) ≡ true → at ≤ end → x.0.0 ≤ end
taken-low x items at end h any le =
    let low : x.0.0 ≤ at =
    any-at (λ n. x.0.0 ≤ n) at (map end_in items) any
    (recursion_from_All (λ (e : End). x.0.0 ≤ e.at) (map end_in items) (lowest-all x items h)) in
    omega (arith, low, le)

-- ---- closing

-- what an end adds to a sum over the ends above an address
abbrev pub above_part : ℕ → (End → ℕ) → End → ℕ
above_part end f e = cond (nat_lt end e.at) (f e) 0

-- an end at or below an address is not among those above it
pub closes-taken : (end : ℕ) (f : End → ℕ) (e : End) (old new : List End) → e.at ≤ end
    → IsPermutation old (e ∷ new) → sum_by (above_part end f) new ≡ sum_by (above_part end f) old
closes-taken end f e old new le perm =
    let all : sum_by (above_part end f) (e ∷ new) ≡ sum_by (above_part end f) old =
    sum_by-IsPermutation (above_part end f) old (e ∷ new) perm in
    let one : sum_by (above_part end f) (e ∷ new)
    ≡ above_part end f e + sum_by (above_part end f) new =
    sum_by-cons (above_part end f) e new in
    let no : nat_lt end e.at ≡ false = grind (arith, nat_tests) in
    let none : above_part end f e ≡ 0 = ap (λ b. cond b (f e) 0) no in
    omega (arith, all, one, none)

-- all ends are above an address
pub closes-all : (end : ℕ) (f : End → ℕ) (ends : List End) → All (λ (e : End). end < e.at) ends
    → sum_by f ends ≡ sum_by (above_part end f) ends
closes-all end f ends h = each ends (recursion_from_All (λ (e : End). end < e.at) ends h)
  where
    each : (es : List End) → AllByRecursion (λ (e : End). end < e.at) es
        → sum_by f es ≡ sum_by (above_part end f) es
    each [] h = refl
    each (e ∷ es) h =
        let lt : end < e.at = h.0 in
        let yes : nat_lt end e.at ≡ true = grind (arith, nat_tests) in
        let one : above_part end f e ≡ f e = ap (λ b. cond b (f e) 0) yes in
        let a : sum_by f (e ∷ es) ≡ f e + sum_by f es = sum_by-cons f e es in
        let b : sum_by (above_part end f) (e ∷ es)
        ≡ above_part end f e + sum_by (above_part end f) es =
        sum_by-cons (above_part end f) e es in
        let rest = each es h.1 in omega (arith, one, a, b, rest)
