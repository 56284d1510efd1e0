-- The first set bit of a word, or of a list of words, at or after a bit.
use Rattle.std.proofs.Common.{◌≡◌, ℕ, ◌+◌, ◌-◌, ◌*◌, ◌/◌, ◌%◌, ◌^◌, ◌<◌, ◌≤◌, List, get_or}
use Rattle.std.proofs.Common.{false, refl, ap, sym, ◌∙◌, subst, inl, inr, arith}
use Rattle.std.specs.Prelude.{nat_eq, Option, Some, None}
use Rattle.std.specs.Int.{bit_at, trailing_zeros, w64}
use Rattle.std.proofs.lemmas.Bool.{cases_eq, cases_lt, both_ways}
use Rattle.std.proofs.lemmas.Bool.Decides.{nat_tests}
use Rattle.std.proofs.lemmas.Nat.{shr-shr, shr_le}
use Rattle.std.proofs.lemmas.Nat.Bits.{bit_at-zero, bit_at-trailing_zeros, same_from_bits_below}
use Rattle.std.proofs.lemmas.Nat.Bits.{bit_at_above}
use Rattle.addr_table.specs.Private.Bits.{has, is_filled, IsFirstFrom, IsFirstInWord}

-- ---- the first set bit of a word at or after a bit

-- the bits of a word at or after a bit, from the shifted word
pub none-from : (word from i : ℕ) → word / 2 ^ from ≡ 0 → from ≤ i → bit_at word i ≡ 0
none-from word from i h le =
    let moved : word / 2 ^ from / 2 ^ (i - from) ≡ word / 2 ^ (from + (i - from)) =
    shr-shr word from (i - from) in
    let place : from + (i - from) ≡ i = omega arith in
    let zero_there : bit_at 0 (i - from) ≡ 0 = bit_at-zero (i - from) in
    let Q : ℕ → Type 0 = λ n. n % 2 ≡ 0 in
    let P : ℕ → Type 0 = λ n. word / 2 ^ n % 2 ≡ 0 in
    let Z : ℕ → Type 0 = λ n. n / 2 ^ (i - from) % 2 ≡ 0 in
    subst P place (subst Q moved (subst Z (sym h) zero_there))

pub moved-bit : (word from i : ℕ) → bit_at (word / 2 ^ from) i ≡ bit_at word (from + i)
moved-bit word from i = ap (λ n. n % 2) (shr-shr word from i)

-- ---- the first set bit at or after an index

-- a word without set bits is 0
pub empty-word : (word : ℕ) → word < 2 ^ 64 → ((i : ℕ) → i < 64 → bit_at word i ≡ 0) → word ≡ 0
empty-word word fits none = same_from_bits_below 64 word 0 fits (omega arith)
    (λ i lt. none i lt ∙ sym (bit_at-zero i))

has-none : (x : ℕ) → x ≡ 0 → nat_eq x 1 ≡ false
has-none x h = grind (arith, nat_tests)

-- a word that is 0 has no set bit
pub not-filled : (words : List ℕ) (k : ℕ) → is_filled words (k / 64) ≡ false → has words k ≡ false
not-filled words k h =
    let empty : get_or words (k / 64) 0 ≡ 0 = grind (arith, nat_tests) in
    has-none _ (ap (λ n. bit_at n (k % 64)) empty ∙ bit_at-zero (k % 64))

-- neither the word itself nor a later word has a set bit
pub climbed-none : (words : List ℕ) (from : ℕ) → IsFirstInWord words from None
    → IsFirstFrom (is_filled words) (from / 64 + 1) None
    → IsFirstFrom (has words) from None
climbed-none words from here above k le = elim (cases_eq (k / 64) (from / 64)) [
  | inl same ↦ here k le same
  | inr other ↦ not-filled words k (above (k / 64) (omega arith))
]

-- .. or the first set bit is in the first later word that has one
pub climbed-some : (words : List ℕ) (from w : ℕ) (first : Option ℕ) → IsFirstInWord words from None
    → IsFirstFrom (is_filled words) (from / 64 + 1) (Some w)
    → IsFirstInWord words (w * 64) first
    → (first ≡ None → w * 64 % 64 ≡ 0 → is_filled words (w * 64 / 64) ≡ false)
    → IsFirstFrom (has words) from first
climbed-some words from w None here above found empty =
    let word : w * 64 / 64 ≡ w = omega arith in
    let none : is_filled words (w * 64 / 64) ≡ false = empty refl (omega arith) in
    let W : ℕ → Type 0 = λ n. is_filled words n ≡ false in
    absurd (both_ways (is_filled words w) (subst W word none) above.1)
climbed-some words from w (Some r) here above found empty =
    let same : r / 64 ≡ w * 64 / 64 = found.1 in
    let le : from / 64 + 1 ≤ w = above.0 in (
      omega arith,
      found.2,
      λ k low high. elim (cases_eq (k / 64) (from / 64)) [
        | inl same ↦ here k low same
        | inr other ↦ elim (cases_lt (k / 64) w) [
          | inl before ↦ not-filled words k (above.2 (k / 64) (omega arith) before)
          | inr after ↦ found.3 k (omega arith) high
        ]
      ],
    )

-- ---- the first set bit of a word at or after a bit

pub first-bit : (word from : ℕ) → word < 2 ^ 64 → from < 64 → (word / 2 ^ from ≡ 0 → ⊥)
    → (from ≤ from + trailing_zeros w64 (word / 2 ^ from))
    × (from + trailing_zeros w64 (word / 2 ^ from) < 64) ×
    (bit_at word (from + trailing_zeros w64 (word / 2 ^ from)) ≡ 1)
    × ((i : ℕ) → from ≤ i → i < from + trailing_zeros w64 (word / 2 ^ from) → bit_at word i ≡ 0)
first-bit word from fits lt some =
    let rest : ℕ = word / 2 ^ from in
    let less : word / 2 ^ from ≤ word = shr_le word from in
    let found = bit_at-trailing_zeros w64 (word / 2 ^ from) (omega arith) (omega arith) in
    let one : bit_at word (from + trailing_zeros w64 (word / 2 ^ from)) ≡ 1 =
    sym (moved-bit word from (trailing_zeros w64 (word / 2 ^ from))) ∙ found.1 in (
      omega arith,
      within (from + trailing_zeros w64 (word / 2 ^ from)) one,
      one,
      λ i low high.
          let place : from + (i - from) ≡ i = omega arith in
          let P : ℕ → Type 0 = λ n. bit_at word n ≡ 0 in
          subst P place (sym (moved-bit word from (i - from)) ∙ found.2 (i - from) (omega arith)),
    )
  where
    within : (t : ℕ) → bit_at word t ≡ 1 → t < 64
    within t one = elim (cases_lt t 64) [
      | inl lt ↦ lt
      | inr ge ↦ let none : bit_at word t ≡ 0 = bit_at_above word 64 t fits ge in
          absurd (omega arith)
    ]

-- ---- the first set bit at or after an index, word by word

-- no bit at or after an index is set, up to a word
abbrev pub NoneUpTo : List ℕ → ℕ → ℕ → Type 0
NoneUpTo words from w = (k : ℕ) → from ≤ k → k / 64 < w → has words k ≡ false
