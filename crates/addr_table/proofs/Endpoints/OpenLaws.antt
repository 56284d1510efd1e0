-- The open ends: the ends of the ranges that contain an address.
use Rattle.std.proofs.Common.{◌≡◌, ◌⊎◌, ℕ, ◌+◌, ◌<◌, ◌≤◌, List, ◌∷◌, length, take}
use Rattle.std.proofs.Common.{get_or, Bool, true, false, cond, not, refl, ap, sym, ◌∙◌}
use Rattle.std.proofs.Common.{inl, inr, arith}
use Rattle.std.specs.Prelude.{nat_lt, nat_le, sum_by}
use Rattle.std.specs.List.{AllByRecursion}
use Rattle.std.specs.List.Sorted.{IsPermutation}
use Rattle.std.proofs.lemmas.Bool.{cases_lt, false≢true}
use Rattle.std.proofs.lemmas.Bool.Decides.{nat_tests}
use Rattle.std.proofs.lemmas.List.Sums.{sum_by-cons, sum_by_more}
use Rattle.std.proofs.lemmas.List.Sorted.{sum_by-IsPermutation}
use Rattle.addr_table.specs.declared.open_ends.End.{End}
use Rattle.addr_table.specs.declared.starts.Start.{Start}
use Rattle.addr_table.specs.Private.Sweep.{end_of, AreOpen}
use Rattle.addr_table.specs.Private.Sweep.{Closes}
use Rattle.addr_table.proofs.Scanning.Lists.{each-weaker}
use Rattle.addr_table.proofs.Endpoints.SumLaws.{one-if, sums-agree, sum-none, none-each, all-each}

-- ---- the ends of the ranges that have started

-- what a range that has started adds to a sum over the open ends
abbrev pub part : ℕ → (End → ℕ) → Start → ℕ
part x f s = cond (nat_le x s.to) (f (end_of s)) 0

test-false : (b : Bool) → one-if (not b) ≡ 0 → b ≡ true
test-false true h = refl
test-false false h = absurd (omega (arith, h))

-- what holds for the ends of all ranges that started holds for the open ends ..
pub open-each : (Q : ℕ → Bool) (starts : List Start) (p x : ℕ) (ends : List End)
    → AreOpen starts p x ends
    → AllByRecursion (λ (s : Start). nat_le x s.to ≡ true → Q s.to ≡ true) (take p starts)
    → AllByRecursion (λ (e : End). Q e.at ≡ true) ends
open-each Q starts p x ends h all =
    each-weaker (λ (e : End). one-if (not (Q e.at)) ≡ 0) (λ (e : End). Q e.at ≡ true)
    (λ e none. test-false (Q e.at) none) ends
    (none-each (λ (e : End). one-if (not (Q e.at))) ends
    (h (λ e. one-if (not (Q e.at)))
    ∙ sum-none (part x (λ e. one-if (not (Q e.at)))) (take p starts)
    (each-weaker (λ (s : Start). nat_le x s.to ≡ true → Q s.to ≡ true)
    (λ (s : Start). part x (λ e. one-if (not (Q e.at))) s ≡ 0)
    (λ s is. none (nat_le x s.to) (Q s.to) is) (take p starts) all)))
  where
    none : (b q : Bool) → (b ≡ true → q ≡ true) → cond b (one-if (not q)) 0 ≡ 0
    none true true h = refl
    none true false h = absurd (false≢true (h refl))
    none false q h = refl

-- .. and what holds for the open ends holds for the ends of the ranges that started and are open
pub started-each : (Q : ℕ → Bool) (starts : List Start) (p x : ℕ) (ends : List End)
    → AreOpen starts p x ends → AllByRecursion (λ (e : End). Q e.at ≡ true) ends
    → AllByRecursion (λ (s : Start). nat_le x s.to ≡ true → Q s.to ≡ true) (take p starts)
started-each Q starts p x ends h all =
    each-weaker (λ (s : Start). part x (λ e. one-if (not (Q e.at))) s ≡ 0)
    (λ (s : Start). nat_le x s.to ≡ true → Q s.to ≡ true)
    (λ s none is. test (nat_le x s.to) (Q s.to) none is) (take p starts)
    (none-each (part x (λ e. one-if (not (Q e.at)))) (take p starts)
    (sym (h (λ e. one-if (not (Q e.at))))
    ∙ sum-none (λ (e : End). one-if (not (Q e.at))) ends
    (each-weaker (λ (e : End). Q e.at ≡ true) (λ (e : End). one-if (not (Q e.at)) ≡ 0)
    (λ e is. ap (λ b. one-if (not b)) is) ends all)))
  where
    test : (b q : Bool) → cond b (one-if (not q)) 0 ≡ 0 → b ≡ true → q ≡ true
    test true q none is = test-false q none
    test false q none is = absurd (false≢true is)

pub le-true : (a b : ℕ) → a ≤ b → nat_le a b ≡ true
le-true a b le = grind (arith, nat_tests)

pub le-false : (a b : ℕ) → b < a → nat_le a b ≡ false
le-false a b lt = grind (arith, nat_tests)

pub lt-true : (a b : ℕ) → a < b → nat_lt a b ≡ true
lt-true a b lt = grind (arith, nat_tests)

pub lt-false : (a b : ℕ) → b ≤ a → nat_lt a b ≡ false
lt-false a b le = grind (arith, nat_tests)

pub true-le : (a b : ℕ) → nat_le a b ≡ true → a ≤ b
true-le a b is = elim (cases_lt b a) [
  | inl lt ↦ absurd (false≢true (sym (le-false a b lt) ∙ is))
  | inr ge ↦ ge
]

-- the open ends are at or after the address from which on ranges were not closed
pub open-from : (starts : List Start) (p x : ℕ) (ends : List End) → AreOpen starts p x ends
    → AllByRecursion (λ (e : End). x ≤ e.at) ends
open-from starts p x ends h =
    each-weaker (λ (e : End). nat_le x e.at ≡ true) (λ (e : End). x ≤ e.at)
    (λ e is. true-le x e.at is) ends
    (open-each (λ n. nat_le x n) starts p x ends h
    (all-each (λ (s : Start). nat_le x s.to ≡ true → nat_le x s.to ≡ true) (take p starts)
    (λ s is. is)))

-- the ranges that are open end at or after an address if the open ends are
pub started-from : (starts : List Start) (p x f : ℕ) (ends : List End) → AreOpen starts p x ends
    → AllByRecursion (λ (e : End). f ≤ e.at) ends
    → AllByRecursion (λ (s : Start). (s.to < x) ⊎ (f ≤ s.to)) (take p starts)
started-from starts p x f ends h all =
    each-weaker (λ (s : Start). nat_le x s.to ≡ true → nat_le f s.to ≡ true)
    (λ (s : Start). (s.to < x) ⊎ (f ≤ s.to))
    (λ s is. elim (cases_lt s.to x) [
      | inl lt ↦ inl lt
      | inr ge ↦ inr (true-le f s.to (is (le-true x s.to ge)))
    ]) (take p starts)
    (started-each (λ n. nat_le f n) starts p x ends h
    (each-weaker (λ (e : End). f ≤ e.at) (λ (e : End). nat_le f e.at ≡ true)
    (λ e le. le-true f e.at le) ends all))

-- no range ends between the address and the next endpoint
pub open-until : (starts : List Start) (p x f : ℕ) (ends : List End) → AreOpen starts p x ends
    → AllByRecursion (λ (e : End). f ≤ e.at) ends → x ≤ f → AreOpen starts p f ends
open-until starts p x f ends h all le g =
    h g ∙ sums-agree (part x g) (part f g) (take p starts)
    (each-weaker (λ (s : Start). (s.to < x) ⊎ (f ≤ s.to)) (λ (s : Start). part x g s ≡ part f g s)
    (λ s is. same s is) (take p starts) (started-from starts p x f ends h all))
  where
    same : (s : Start) → (s.to < x) ⊎ (f ≤ s.to) → part x g s ≡ part f g s
    same s is = elim is [
      | inl lt ↦ rw (le-false x s.to lt, le-false f s.to (omega (arith, lt, le))) refl
      | inr ge ↦ rw (le-true x s.to (omega (arith, ge, le)), le-true f s.to ge) refl
    ]

-- the ranges that end at an address were closed
pub open-closed : (starts : List Start) (p x : ℕ) (ends ends' : List End) → AreOpen starts p x ends
    → Closes x ends ends' → AreOpen starts p (x + 1) ends'
open-closed starts p x ends ends' h closes f =
    closes f ∙ h (λ e. cond (nat_lt x e.at) (f e) 0)
    ∙ sums-agree (part x (λ e. cond (nat_lt x e.at) (f e) 0)) (part (x + 1) f) (take p starts)
    (all-each (λ (s : Start). part x (λ e. cond (nat_lt x e.at) (f e) 0) s ≡ part (x + 1) f s)
    (take p starts) same)
  where
    either : (b : Bool) (n : ℕ) → cond b n n ≡ n
    either true n = refl
    either false n = refl

    same : (s : Start) → part x (λ e. cond (nat_lt x e.at) (f e) 0) s ≡ part (x + 1) f s
    same s = elim (cases_lt x s.to) [
      | inl lt ↦ rw (
        le-true x s.to (omega (arith, lt)),
        lt-true x s.to lt,
        le-true (x + 1) s.to (omega (arith, lt)),
      ) refl
      | inr ge ↦ rw (lt-false x s.to ge, le-false (x + 1) s.to (omega (arith, ge)))
          (either (nat_le x s.to) 0)
    ]

-- one more range has started
pub open-more : (starts : List Start) (p x : ℕ) (s : Start) (ends ends' : List End)
    → AreOpen starts p x ends → p < length starts → ((d : Start) → get_or starts p d ≡ s)
    → x ≤ s.to → IsPermutation (end_of s ∷ ends) ends' → AreOpen starts (p + 1) x ends'
open-more starts p x s ends ends' h lt is le perm f =
    let all : sum_by f ends' ≡ sum_by f (end_of s ∷ ends) =
    sum_by-IsPermutation f (end_of s ∷ ends) ends' perm in
    let one : sum_by f (end_of s ∷ ends) ≡ f (end_of s) + sum_by f ends =
    sum_by-cons f (end_of s) ends in
    let rest : sum_by f ends ≡ sum_by (part x f) (take p starts) = h f in
    let more : sum_by (part x f) (take (p + 1) starts)
    ≡ sum_by (part x f) (take p starts) + part x f (get_or starts p s) =
    sum_by_more (part x f) starts p s lt in
    let this : part x f (get_or starts p s) ≡ f (end_of s) =
    ap (part x f) (is s) ∙ ap (λ b. cond b (f (end_of s)) 0) (le-true x s.to le) in
    omega arith
