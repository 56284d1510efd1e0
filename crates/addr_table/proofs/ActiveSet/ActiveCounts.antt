-- The counts of the active set when ranges start and end.
use Rattle.std.proofs.Common.{◌≡◌, ℕ, ◌+◌, ◌-◌, ◌<◌, ◌≤◌, List, ◌∷◌, length, set, get_or}
use Rattle.std.proofs.Common.{true, false, ap, sym, ◌∙◌, subst, inl, inr, refl, arith}
use Rattle.std.specs.Prelude.{◌==◌}
use Rattle.std.specs.List.Sorted.{IsPermutation}
use Rattle.std.proofs.lemmas.Bool.{cases_eq, cases_lt}
use Rattle.std.proofs.lemmas.Bool.Decides.{nat_tests}
use Rattle.std.proofs.lemmas.List.{get_or-set_same, get_or-set_other}
use Rattle.std.proofs.Math.ListN.{get_or-eq_default}
use Rattle.std.proofs.lemmas.List.Sums.{sum_by-cons, count_by-le-length}
use Rattle.std.proofs.lemmas.List.Sorted.{sum_by-IsPermutation, length_permutation}
use Rattle.addr_table.specs.declared.open_ends.End.{End}
use Rattle.addr_table.specs.Private.Active.{ActiveSet}
use Rattle.addr_table.specs.Private.Sweep.{AreActive, keyed}
use Rattle.addr_table.proofs.Endpoints.OpenCounts.{one_of}
use Rattle.addr_table.proofs.Endpoints.SumLaws.{one-if}

one-same : (a k : ℕ) → a ≡ k → one-if (a == k) ≡ 1
one-same a k is = let t : (a == k) ≡ true = grind (arith, nat_tests) in rw t refl

one-other : (a k : ℕ) → (k ≡ a → ⊥) → one-if (a == k) ≡ 0
one-other a k not_is = let t : (a == k) ≡ false = grind (arith, nat_tests) in rw t refl

-- the number of ends with a key, with one more end
pub keyed-more : (k : ℕ) (e : End) (ends ends' : List End) → IsPermutation (e ∷ ends) ends'
    → keyed k ends' ≡ one_of k e + keyed k ends
keyed-more k e ends ends' perm =
    sum_by-IsPermutation (one_of k) (e ∷ ends) ends' perm ∙ sum_by-cons (one_of k) e ends

pub ends-length : (e : End) (ends ends' : List End) → IsPermutation (e ∷ ends) ends'
    → length ends' ≡ length ends + 1
ends-length e ends ends' perm =
    let a : length ends' ≡ length (e ∷ ends) = length_permutation (e ∷ ends) ends' perm in
    omega arith

-- ---- a range starts

pub active-opened : (e : End) (ends ends' : List End) (old new : ActiveSet)
    → AreActive ends old → IsPermutation (e ∷ ends) ends' → e.key < length old.counts
    → new.counts ≡ set old.counts e.key (get_or old.counts e.key 0 + 1) → AreActive ends' new
active-opened e ends ends' old new h perm within counts k =
    let more : keyed k ends' ≡ one_of k e + keyed k ends = keyed-more k e ends ends' perm in
    let was : get_or old.counts k 0 ≡ keyed k ends = h k in
    elim (cases_eq k e.key) [
      | inl same ↦
          let one : one_of k e ≡ 1 = one-same e.key k (sym same) in
          let P : ℕ → Type 0 = λ j. get_or
          (set old.counts e.key (get_or old.counts e.key 0 + 1)) j 0
          ≡ get_or old.counts j 0 + 1 in
          let there : get_or (set old.counts e.key (get_or old.counts e.key 0 + 1)) k 0
          ≡ get_or old.counts k 0 + 1 =
          subst P (sym same) (get_or-set_same old.counts e.key (get_or old.counts e.key 0 + 1) 0
          within) in
          let here : get_or new.counts k 0 ≡ get_or old.counts k 0 + 1 =
          ap (λ (cs : List ℕ). get_or cs k 0) counts ∙ there in omega arith
      | inr other ↦
          let none : one_of k e ≡ 0 = one-other e.key k other in
          let here : get_or new.counts k 0 ≡ get_or old.counts k 0 =
          ap (λ (cs : List ℕ). get_or cs k 0) counts
          ∙ get_or-set_other old.counts e.key k (get_or old.counts e.key 0 + 1) 0 other in
          omega arith
    ]

-- ---- a range ends

-- the count of an open end's key is not 0
pub active-some : (e : End) (ends ends' : List End) (old : ActiveSet)
    → AreActive ends' old → IsPermutation ends' (e ∷ ends) → 0 < get_or old.counts e.key 0
active-some e ends ends' old h perm =
    let all : keyed e.key (e ∷ ends) ≡ keyed e.key ends' =
    sum_by-IsPermutation (one_of e.key) ends' (e ∷ ends) perm in
    let more : keyed e.key (e ∷ ends) ≡ one_of e.key e + keyed e.key ends =
    sum_by-cons (one_of e.key) e ends in
    let one : one_of e.key e ≡ 1 = one-same e.key e.key refl in
    let is = h e.key in omega arith

pub active-within : (k : ℕ) (old : ActiveSet) → 0 < get_or old.counts k 0
    → k < length old.counts
active-within k old some = elim (cases_lt k (length old.counts)) [
  | inl lt ↦ lt
  | inr ge ↦ let none : get_or old.counts k 0 ≡ 0 = get_or-eq_default old.counts 0 ge in
      absurd (omega arith)
]

pub active-closed : (e : End) (ends ends' : List End) (old new : ActiveSet)
    → AreActive ends' old → IsPermutation ends' (e ∷ ends)
    → new.counts ≡ set old.counts e.key (get_or old.counts e.key 0 - 1) → AreActive ends new
active-closed e ends ends' old new h perm counts k =
    let all : keyed k (e ∷ ends) ≡ keyed k ends' =
    sum_by-IsPermutation (one_of k) ends' (e ∷ ends) perm in
    let more : keyed k (e ∷ ends) ≡ one_of k e + keyed k ends = sum_by-cons (one_of k) e ends in
    let was : get_or old.counts k 0 ≡ keyed k ends' = h k in
    let some = active-some e ends ends' old h perm in
    let within = active-within e.key old some in
    elim (cases_eq k e.key) [
      | inl same ↦
          let one : one_of k e ≡ 1 = one-same e.key k (sym same) in
          let P : ℕ → Type 0 = λ j. get_or
          (set old.counts e.key (get_or old.counts e.key 0 - 1)) j 0 + 1
          ≡ get_or old.counts j 0 in
          let put : get_or (set old.counts e.key (get_or old.counts e.key 0 - 1)) e.key 0
          ≡ get_or old.counts e.key 0 - 1 =
          get_or-set_same old.counts e.key (get_or old.counts e.key 0 - 1) 0 within in
          let there : get_or (set old.counts e.key (get_or old.counts e.key 0 - 1)) k 0 + 1
          ≡ get_or old.counts k 0 =
          subst P (sym same) (omega arith) in
          let here : get_or new.counts k 0 + 1 ≡ get_or old.counts k 0 =
          ap (λ (cs : List ℕ). get_or cs k 0 + 1) counts ∙ there in omega arith
      | inr other ↦
          let none : one_of k e ≡ 0 = one-other e.key k other in
          let here : get_or new.counts k 0 ≡ get_or old.counts k 0 =
          ap (λ (cs : List ℕ). get_or cs k 0) counts
          ∙ get_or-set_other old.counts e.key k (get_or old.counts e.key 0 - 1) 0 other in
          omega arith
    ]

-- ---- bounds

-- a count is at most the number of open ends
pub count-few : (k : ℕ) (ends : List End) (active : ActiveSet) → AreActive ends active
    → get_or active.counts k 0 ≤ length ends
count-few k ends active h =
    let is = h k in
    let most : keyed k ends ≤ length ends = count_by-le-length (λ (e : End). e.key == k) ends in
    omega arith
