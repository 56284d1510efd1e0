-- The active ranges, by the open ends.
use Rattle.std.proofs.Common.{◌≡◌, ℕ, zero, suc, ◌+◌, ◌<◌, ◌≤◌, List, [], ◌∷◌, length, map, take}
use Rattle.std.proofs.Common.{drop}
use Rattle.std.proofs.Common.{get_or, Bool, true, false, cond, ◌&&◌, ◌||◌, refl, ap, sym, ◌∙◌}
use Rattle.std.proofs.Common.{inl, inr, arith}
use Rattle.std.specs.Prelude.{◌==◌, nat_lt, nat_le, sum_by}
use Rattle.std.specs.List.{list_any}
use Rattle.std.proofs.lemmas.Bool.{cases_lt}
use Rattle.std.proofs.lemmas.Bool.Decides.{nat_tests}
use Rattle.std.proofs.lemmas.List.Elements.{recursion_from_All}
use Rattle.std.proofs.lemmas.List.Sums.{sum_by-cons, sum_by-take-drop}
use Rattle.std.proofs.lemmas.List.Sorted.{sum_by-IsPermutation}
use Rattle.addr_table.specs.declared.open_ends.End.{End}
use Rattle.addr_table.specs.declared.starts.Start.{Start}
use Rattle.addr_table.specs.Rows.{holds}
use Rattle.addr_table.specs.Private.Bits.{is_filled}
use Rattle.addr_table.specs.Private.Active.{ActiveSet}
use Rattle.addr_table.specs.Private.Sweep.{Reach, start_of, AreStarts, UpTo, Above, AreOpen}
use Rattle.addr_table.specs.Private.Sweep.{IsOpen}
use Rattle.addr_table.proofs.Scanning.Lists.{each-weaker}
use Rattle.addr_table.proofs.Endpoints.SumLaws.{one-if, sums-agree, sum-none, sum-mapped}
use Rattle.addr_table.proofs.Endpoints.OpenLaws.{part, le-true, le-false, lt-true, lt-false}

-- 1 if an end has a key
abbrev pub one_of : ℕ → End → ℕ
one_of k e = one-if (e.key == k)

-- 1 if a range has a key and contains an address
abbrev one_with_key : ℕ → ℕ → Reach → ℕ
one_with_key k a r = one-if ((r.key == k) && holds a r.range)

abbrev count_with_key : ℕ → ℕ → List Reach → ℕ
count_with_key k a reaches = sum_by (one_with_key k a) reaches

-- the same for the start of a range
abbrev start_with_key : ℕ → ℕ → Start → ℕ
start_with_key k a s = one-if ((s.key == k) && (nat_le s.at a && nat_lt a s.to))

count-any : (k a : ℕ) (reaches : List Reach) → nat_lt 0 (count_with_key k a reaches)
    ≡ list_any (λ r. (r.key == k) && holds a r.range) reaches
count-any k a [] = refl
count-any k a (r ∷ reaches) =
    let sum : count_with_key k a (r ∷ reaches) ≡ one_with_key k a r + count_with_key k a reaches =
    sum_by-cons (one_with_key k a) r reaches in
    ap (nat_lt 0) sum ∙ step ((r.key == k) && holds a r.range) (count_with_key k a reaches)
    ∙ ap (λ b. ((r.key == k) && holds a r.range) || b) (count-any k a reaches)
  where
    step : (b : Bool) (n : ℕ) → nat_lt 0 (one-if b + n) ≡ (b || nat_lt 0 n)
    step true n = grind (arith, nat_tests)
    step false n = ap (nat_lt 0) (omega arith)

-- After the starts up to an address, the count of a key is the number of ranges with the key that
-- contain the address.
open-count : (reaches : List Reach) (starts : List Start) (p a : ℕ) (ends : List End)
    (active : ActiveSet)
    → AreStarts reaches starts → IsOpen starts p (a + 1) ends active
    → UpTo a (take p starts) → Above a (drop p starts) → (k : ℕ)
    → get_or active.counts k 0 ≡ count_with_key k a reaches
open-count reaches starts p a ends active h b low high k =
    let count : get_or active.counts k 0 ≡ sum_by (one_of k) ends = b.active_are k in
    let opened : sum_by (one_of k) ends ≡ sum_by (part (a + 1) (one_of k)) (take p starts) =
    b.open_are (one_of k) in
    let first : sum_by (part (a + 1) (one_of k)) (take p starts)
    ≡ sum_by (start_with_key k a) (take p starts) =
    sums-agree (part (a + 1) (one_of k)) (start_with_key k a) (take p starts)
    (each-weaker (λ (s : Start). s.at ≤ a)
    (λ (s : Start). part (a + 1) (one_of k) s ≡ start_with_key k a s) (λ s le. this s le)
    (take p starts) (recursion_from_All (λ (s : Start). s.at ≤ a) (take p starts) low)) in
    let later : sum_by (start_with_key k a) (drop p starts) ≡ 0 =
    sum-none (start_with_key k a) (drop p starts)
    (each-weaker (λ (s : Start). a < s.at) (λ (s : Start). start_with_key k a s ≡ 0)
    (λ s lt. rw (le-false s.at a lt) (never (s.key == k))) (drop p starts)
    (recursion_from_All (λ (s : Start). a < s.at) (drop p starts) high)) in
    let parts : sum_by (start_with_key k a) (take p starts) + sum_by (start_with_key k a)
    (drop p starts) ≡ sum_by (start_with_key k a) starts =
    sum_by-take-drop (start_with_key k a) starts p in
    let all : sum_by (start_with_key k a) starts
    ≡ sum_by (start_with_key k a) (map start_of reaches) =
    sum_by-IsPermutation (start_with_key k a) (map start_of reaches) starts h.starts_are in
    let mapped : sum_by (start_with_key k a) (map start_of reaches) ≡ count_with_key k a reaches =
    sum-mapped (start_with_key k a) start_of reaches in
    omega arith
  where
    never : (b : Bool) → one-if (b && false) ≡ 0
    never true = refl
    never false = refl

    whole : (b : Bool) → one-if b ≡ one-if (b && true)
    whole true = refl
    whole false = refl

    this : (s : Start) → s.at ≤ a → part (a + 1) (one_of k) s ≡ start_with_key k a s
    this s le = elim (cases_lt a s.to) [
      | inl lt ↦ rw (
        le-true (a + 1) s.to (omega (arith, lt)),
        le-true s.at a le,
        lt-true a s.to lt,
      ) (whole (s.key == k))
      | inr ge ↦ rw (
        le-false (a + 1) s.to (omega (arith, ge)),
        le-true s.at a le,
        lt-false a s.to ge,
      ) (sym (never (s.key == k)))
    ]

pub open-any : (reaches : List Reach) (starts : List Start) (p a : ℕ) (ends : List End)
    (active : ActiveSet)
    → AreStarts reaches starts → IsOpen starts p (a + 1) ends active
    → UpTo a (take p starts) → Above a (drop p starts) → (k : ℕ)
    → is_filled active.counts k ≡ list_any (λ r. (r.key == k) && holds a r.range) reaches
open-any reaches starts p a ends active h b low high k =
    ap (nat_lt 0) (open-count reaches starts p a ends active h b low high k)
    ∙ count-any k a reaches

-- there are at most as many open ends as starts
pub open-few : (starts : List Start) (p x : ℕ) (ends : List End) → AreOpen starts p x ends
    → length ends ≤ p
open-few starts p x ends h =
    let a : sum_by (λ (e : End). 1) ends ≡ sum_by (part x (λ e. 1)) (take p starts) =
    h (λ e. 1) in
    let b = most p starts in let c = ones ends in omega (arith, a, b, c)
  where
    ones : (es : List End) → sum_by (λ (e : End). 1) es ≡ length es
    ones [] = refl
    ones (e ∷ es) =
        let c : sum_by (λ (e : End). 1) (e ∷ es) ≡ 1 + sum_by (λ (e : End). 1) es =
        sum_by-cons (λ (e : End). 1) e es in
        let d = ones es in omega (arith, c, d)

    one : (b : Bool) → cond b 1 0 ≤ 1
    one true = omega arith
    one false = omega arith

    most : (n : ℕ) (ss : List Start) → sum_by (part x (λ e. 1)) (take n ss) ≤ n
    most zero ss = omega arith
    most (suc n) [] = omega arith
    most (suc n) (s ∷ ss) =
        let c : sum_by (part x (λ e. 1)) (s ∷ take n ss)
        ≡ part x (λ e. 1) s + sum_by (part x (λ e. 1)) (take n ss) =
        sum_by-cons (part x (λ e. 1)) s (take n ss) in
        let d = most n ss in let e : part x (λ e. 1) s ≤ 1 = one (nat_le x s.to) in omega arith
