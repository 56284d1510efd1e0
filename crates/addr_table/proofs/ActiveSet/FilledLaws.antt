-- Which numbers are nonzero after one of them changes.
use Rattle.std.proofs.Common.{◌≡◌, ℕ, ◌/◌, ◌%◌, ◌<◌, List, length, set, get_or, true, not, ◌&&◌}
use Rattle.std.proofs.Common.{◌||◌, ap, sym, ◌∙◌, subst, inl, inr, arith}
use Rattle.std.specs.Prelude.{◌==◌, nat_lt}
use Rattle.std.specs.Int.{bit_at}
use Rattle.std.proofs.lemmas.Bool.{cases_eq, cases_lt, both_ways}
use Rattle.std.proofs.lemmas.Bool.Decides.{nat_tests}
use Rattle.std.proofs.lemmas.List.{get_or-set_same, get_or-set_other, get_or_past}
use Rattle.addr_table.specs.Private.Bits.{has, is_filled, Summarizes}
use Rattle.addr_table.proofs.ActiveSet.BitLaws.{filled-other, with-bit}

-- ---- the bitmap above after a number changes

-- a number becomes nonzero, and its bit is set
pub summary-set : (lower upper lower' upper' : List ℕ) (i : ℕ) → Summarizes lower upper
    → ((w : ℕ) → is_filled lower' w ≡ ((w == i) || is_filled lower w))
    → ((j : ℕ) → has upper' j ≡ ((j == i) || has upper j)) → Summarizes lower' upper'
summary-set lower upper lower' upper' i h filled bits =
    record { same = λ k. bits k ∙ ap (λ b. (k == i) || b) (h.same k) ∙ sym (filled k) }

-- a number becomes 0, and its bit is cleared
pub summary-clear : (lower upper lower' upper' : List ℕ) (i : ℕ) → Summarizes lower upper
    → ((w : ℕ) → is_filled lower' w ≡ (not (w == i) && is_filled lower w))
    → ((j : ℕ) → has upper' j ≡ (not (j == i) && has upper j)) → Summarizes lower' upper'
summary-clear lower upper lower' upper' i h filled bits =
    record { same = λ k. bits k ∙ ap (λ b. not (k == i) && b) (h.same k) ∙ sym (filled k) }

-- the same numbers are 0
pub summary-unchanged : (lower upper lower' : List ℕ) → Summarizes lower upper
    → ((w : ℕ) → is_filled lower' w ≡ is_filled lower w)
    → Summarizes lower' upper
summary-unchanged lower upper lower' h filled = record { same = λ k. h.same k ∙ sym (filled k) }

-- ---- replacing a number of a list

put-same : (x y w i : ℕ) → 0 < x → w ≡ i → nat_lt 0 x ≡ ((w == i) || nat_lt 0 y)
put-same x y w i a b = grind (arith, nat_tests)

zero-same : (x y w i : ℕ) → x ≡ 0 → w ≡ i → nat_lt 0 x ≡ (not (w == i) && nat_lt 0 y)
zero-same x y w i a b = grind (arith, nat_tests)

zero-other : (x y w i : ℕ) → x ≡ y → (w ≡ i → ⊥) → nat_lt 0 x ≡ (not (w == i) && nat_lt 0 y)
zero-other x y w i a b = grind (arith, nat_tests)

some_same : (x y : ℕ) → 0 < x → 0 < y → nat_lt 0 x ≡ nat_lt 0 y
some_same x y a b = grind (arith, nat_tests)

read-put : (xs : List ℕ) (i v w : ℕ) → i < length xs → w ≡ i → get_or (set xs i v) w 0 ≡ v
read-put xs i v w lt same = let W : ℕ → Type 0 = λ u. get_or (set xs i v) u 0 ≡ v in
    subst W (sym same) (get_or-set_same xs i v 0 lt)

-- by a nonzero number
pub filled-put : (xs : List ℕ) (i v w : ℕ) → i < length xs → 0 < v
    → is_filled (set xs i v) w ≡ ((w == i) || is_filled xs w)
filled-put xs i v w lt some = elim (cases_eq w i) [
  | inl same ↦ let here : get_or (set xs i v) w 0 ≡ v = read-put xs i v w lt same in
      put-same _ (get_or xs w 0) w i (omega arith) same
  | inr other ↦ filled-other _ _ w i (get_or-set_other xs i w v 0 other) other
]

-- by 0
pub filled-zero : (xs : List ℕ) (i w : ℕ) → i < length xs
    → is_filled (set xs i 0) w ≡ (not (w == i) && is_filled xs w)
filled-zero xs i w lt = elim (cases_eq w i) [
  | inl same ↦ zero-same _ (get_or xs w 0) w i (read-put xs i 0 w lt same) same
  | inr other ↦ zero-other _ _ w i (get_or-set_other xs i w 0 0 other) other
]

-- a nonzero number by another
pub filled-unchanged : (xs : List ℕ) (i v w : ℕ) → i < length xs → 0 < v → 0 < get_or xs i 0
    → is_filled (set xs i v) w ≡ is_filled xs w
filled-unchanged xs i v w lt some old = elim (cases_eq w i) [
  | inl same ↦
      let here : get_or (set xs i v) w 0 ≡ v = read-put xs i v w lt same in
      let there : get_or xs w 0 ≡ get_or xs i 0 = ap (λ u. get_or xs u 0) same in
      some_same _ _ (omega arith) (omega arith)
  | inr other ↦ ap (nat_lt 0) (get_or-set_other xs i w v 0 other)
]

-- a word with a set bit is not 0
pub has-filled : (words : List ℕ) (k : ℕ) → has words k ≡ true → is_filled words (k / 64) ≡ true
has-filled words k h =
    let one : bit_at (get_or words (k / 64) 0) (k % 64) ≡ 1 = grind (arith, nat_tests) in
    let some : 0 < get_or words (k / 64) 0 = with-bit _ (k % 64) one in
    grind (arith, nat_tests)

-- the index of a nonzero number is within the list
pub filled-within : (xs : List ℕ) (w : ℕ) → is_filled xs w ≡ true → w < length xs
filled-within xs w h = elim (cases_lt w (length xs)) [
  | inl lt ↦ lt
  | inr ge ↦
      let none : get_or xs w 0 ≡ 0 = get_or_past xs w 0 ge in
      absurd (both_ways (nat_lt 0 (get_or xs w 0)) (grind (arith, nat_tests)) h)
]
