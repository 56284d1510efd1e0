-- How the bitmaps of active ranges change with a count.
use Rattle.std.proofs.Common.{◌≡◌, ℕ, ◌+◌, ◌/◌, ◌^◌, ◌<◌, ◌≤◌, List, length, set, get_or, replicate}
use Rattle.std.proofs.Common.{Bool, true, false, not, ◌&&◌, ◌||◌, ap, sym, ◌∙◌, arith, inl, inr}
use Rattle.std.specs.Prelude.{◌==◌, nat_lt, Some, None}
use Rattle.std.proofs.lemmas.Bool.{cases_lt}
use Rattle.std.proofs.lemmas.Bool.Decides.{nat_tests}
use Rattle.std.proofs.lemmas.List.{length-set, length-replicate, get_or-replicate, get_or_past}
use Rattle.addr_table.specs.Private.Bits.{has, is_filled, Summarizes, IsFirstFrom, IsFirstIn}
use Rattle.addr_table.specs.Private.Active.{IsIndexed}
use Rattle.addr_table.proofs.ActiveSet.FirstBits.{not-filled}
use Rattle.addr_table.proofs.ActiveSet.FilledLaws.{summary-set, summary-clear, summary-unchanged}
use Rattle.addr_table.proofs.ActiveSet.FilledLaws.{filled-put}
use Rattle.addr_table.proofs.ActiveSet.FilledLaws.{filled-zero, filled-unchanged, has-filled}

-- one bit is set, or cleared; the other bits are unchanged
abbrev pub SetsBit : List ℕ → List ℕ → ℕ → Type 0
SetsBit old new i = (j : ℕ) → has new j ≡ ((j == i) || has old j)

abbrev pub ClearsBit : List ℕ → List ℕ → ℕ → Type 0
ClearsBit old new i = (j : ℕ) → has new j ≡ (not (j == i) && has old j)

-- the same numbers are 0, except for one that becomes nonzero, or that becomes 0
abbrev pub Fills : List ℕ → List ℕ → ℕ → Type 0
Fills old new i = (w : ℕ) → is_filled new w ≡ ((w == i) || is_filled old w)

abbrev pub Empties : List ℕ → List ℕ → ℕ → Type 0
Empties old new i = (w : ℕ) → is_filled new w ≡ (not (w == i) && is_filled old w)

abbrev pub FillsAlike : List ℕ → List ℕ → Type 0
FillsAlike old new = (w : ℕ) → is_filled new w ≡ is_filled old w

pub indexed-insert : (counts words blocks groups words' blocks' groups' : List ℕ) (key v : ℕ)
    → IsIndexed counts words blocks groups
    → key < length counts → 0 < v
    → length words' ≡ length words → length blocks' ≡ length blocks → length groups' ≡ length groups
    → SetsBit words words' key → Fills words words' (key / 64) → SetsBit blocks blocks' (key / 64)
    → Fills blocks blocks' (key / 64 / 64)
    → SetsBit groups groups' (key / 64 / 64)
    → IsIndexed (set counts key v) words' blocks' groups'
indexed-insert counts words blocks groups words' blocks' groups' key v h lt some lw lb lg sw fw sb
    fb sg =
    let lc = length-set counts key v in
    record {
      words_are = summary-set counts words _ words' key h.words_are
          (λ w. filled-put counts key v w lt some) sw;
      blocks_are = summary-set words blocks words' blocks' (key / 64) h.blocks_are fw sb;
      groups_are = summary-set blocks groups blocks' groups' (key / 64 / 64) h.groups_are fb sg;
      words_are_enough = let q = h.words_are_enough in rw (lc, lw) q;
      blocks_are_enough = let q = h.blocks_are_enough in rw (lw, lb) q;
      groups_are_enough = let q = h.groups_are_enough in rw (lb, lg) q;
      are_few = let q = h.are_few in rw (lw, lb, lg) q;
    }

-- a nonzero count has a set bit at each level
pub word-has : (counts words blocks groups : List ℕ) (key : ℕ)
    → IsIndexed counts words blocks groups → 0 < get_or counts key 0
    → has words key ≡ true
word-has counts words blocks groups key h some =
    h.words_are.same key ∙ (let q : is_filled counts key ≡ true = grind (arith, nat_tests) in q)

pub block-has : (counts words blocks groups : List ℕ) (key : ℕ)
    → IsIndexed counts words blocks groups → 0 < get_or counts key 0
    → has blocks (key / 64) ≡ true
block-has counts words blocks groups key h some =
    h.blocks_are.same (key / 64) ∙ has-filled words key
    (word-has counts words blocks groups key h some)

pub group-has : (counts words blocks groups : List ℕ) (key : ℕ)
    → IsIndexed counts words blocks groups → 0 < get_or counts key 0
    → has groups (key / 64 / 64) ≡ true
group-has counts words blocks groups key h some =
    h.groups_are.same (key / 64 / 64) ∙ has-filled blocks (key / 64)
    (block-has counts words blocks groups key h some)

pub indexed-unchanged : (counts words blocks groups : List ℕ) (key v : ℕ)
    → IsIndexed counts words blocks groups → key < length counts → 0 < v
    → 0 < get_or counts key 0
    → IsIndexed (set counts key v) words blocks groups
indexed-unchanged counts words blocks groups key v h lt some old =
    let lc = length-set counts key v in
    record {
      words_are = summary-unchanged counts words _ h.words_are
          (λ w. filled-unchanged counts key v w lt some old);
      blocks_are = h.blocks_are;
      groups_are = h.groups_are;
      words_are_enough = let q = h.words_are_enough in rw lc q;
      blocks_are_enough = h.blocks_are_enough;
      groups_are_enough = h.groups_are_enough;
      are_few = h.are_few;
    }

pub indexed-word : (counts words blocks groups words' : List ℕ) (key : ℕ)
    → IsIndexed counts words blocks groups → key < length counts
    → length words' ≡ length words → ClearsBit words words' key → FillsAlike words words'
    → IsIndexed (set counts key 0) words' blocks groups
indexed-word counts words blocks groups words' key h lt lw cw fw =
    let lc = length-set counts key 0 in
    record {
      words_are = summary-clear counts words _ words' key h.words_are
          (λ w. filled-zero counts key w lt) cw;
      blocks_are = summary-unchanged words blocks words' h.blocks_are fw;
      groups_are = h.groups_are;
      words_are_enough = let q = h.words_are_enough in rw (lc, lw) q;
      blocks_are_enough = let q = h.blocks_are_enough in rw lw q;
      groups_are_enough = h.groups_are_enough;
      are_few = let q = h.are_few in rw lw q;
    }

pub indexed-block : (counts words blocks groups words' blocks' : List ℕ) (key : ℕ)
    → IsIndexed counts words blocks groups
    → key < length counts
    → length words' ≡ length words → length blocks' ≡ length blocks → ClearsBit words words' key
    → Empties words words' (key / 64)
    → ClearsBit blocks blocks' (key / 64) → FillsAlike blocks blocks'
    → IsIndexed (set counts key 0) words' blocks' groups
indexed-block counts words blocks groups words' blocks' key h lt lw lb cw ew cb fb =
    let lc = length-set counts key 0 in
    record {
      words_are = summary-clear counts words _ words' key h.words_are
          (λ w. filled-zero counts key w lt) cw;
      blocks_are = summary-clear words blocks words' blocks' (key / 64) h.blocks_are ew cb;
      groups_are = summary-unchanged blocks groups blocks' h.groups_are fb;
      words_are_enough = let q = h.words_are_enough in rw (lc, lw) q;
      blocks_are_enough = let q = h.blocks_are_enough in rw (lw, lb) q;
      groups_are_enough = let q = h.groups_are_enough in rw lb q;
      are_few = let q = h.are_few in rw (lw, lb) q;
    }

pub indexed-group : (counts words blocks groups words' blocks' groups' : List ℕ) (key : ℕ)
    → IsIndexed counts words blocks groups
    → key < length counts
    → length words' ≡ length words → length blocks' ≡ length blocks → length groups' ≡ length groups
    → ClearsBit words words' key
    → Empties words words' (key / 64) → ClearsBit blocks blocks' (key / 64)
    → Empties blocks blocks' (key / 64 / 64) → ClearsBit groups groups' (key / 64 / 64)
    → IsIndexed (set counts key 0) words' blocks' groups'
indexed-group counts words blocks groups words' blocks' groups' key h lt lw lb lg cw ew cb eb cg =
    let lc = length-set counts key 0 in
    record {
      words_are = summary-clear counts words _ words' key h.words_are
          (λ w. filled-zero counts key w lt) cw;
      blocks_are = summary-clear words blocks words' blocks' (key / 64) h.blocks_are ew cb;
      groups_are = summary-clear blocks groups blocks' groups' (key / 64 / 64) h.groups_are eb cg;
      words_are_enough = let q = h.words_are_enough in rw (lc, lw) q;
      blocks_are_enough = let q = h.blocks_are_enough in rw (lw, lb) q;
      groups_are_enough = let q = h.groups_are_enough in rw (lb, lg) q;
      are_few = let q = h.are_few in rw (lw, lb, lg) q;
    }

-- no range is active
abbrev pub zeros_of : ℕ → List ℕ
zeros_of n = replicate n 0

pub zeros : (n k : ℕ) → get_or (zeros_of n) k 0 ≡ 0
zeros n k = elim (cases_lt k n) [
  | inl lt ↦ get_or-replicate n k 0 0 lt
  | inr ge ↦ get_or_past (zeros_of n) k 0
      (let l : length (zeros_of n) ≡ n = length-replicate {A = ℕ} n 0 in omega arith)
]

-- no bit of a bitmap of zeros is set
pub no-bit : (n k : ℕ) → has (zeros_of n) k ≡ false
no-bit n k =
    let empty : get_or (zeros_of n) (k / 64) 0 ≡ 0 = zeros n (k / 64) in
    not-filled (zeros_of n) k (ap (nat_lt 0) empty)

pub empty-summary : (n m : ℕ) → Summarizes (zeros_of n) (zeros_of m)
empty-summary n m = record { same = λ k. here k }
  where
    here : (k : ℕ) → has (zeros_of m) k ≡ is_filled (zeros_of n) k
    here k =
        let none : get_or (zeros_of n) k 0 ≡ 0 = zeros n k in
        let empty : get_or (zeros_of m) (k / 64) 0 ≡ 0 = zeros m (k / 64) in
        let f : is_filled (zeros_of m) (k / 64) ≡ false = ap (nat_lt 0) empty in
        not-filled (zeros_of m) k f ∙ sym (ap (nat_lt 0) none)

pub indexed-new : (n w b g : ℕ) → n < 2 ^ 62 → w ≡ n / 64 + 1 → b ≡ w / 64 + 1 → g ≡ b / 64 + 1
    → IsIndexed (zeros_of n) (zeros_of w) (zeros_of b) (zeros_of g)
indexed-new n w b g few wis bis gis =
    let ln : length (zeros_of n) ≡ n = length-replicate {A = ℕ} n 0 in
    let lw : length (zeros_of w) ≡ w = length-replicate {A = ℕ} w 0 in
    let lb : length (zeros_of b) ≡ b = length-replicate {A = ℕ} b 0 in
    let lg : length (zeros_of g) ≡ g = length-replicate {A = ℕ} g 0 in
    record {
      words_are = empty-summary n w;
      blocks_are = empty-summary w b;
      groups_are = empty-summary b g;
      words_are_enough = omega arith;
      blocks_are_enough = omega arith;
      groups_are_enough = omega arith;
      are_few = (omega arith, omega arith, omega arith);
    }

-- the first nonzero number, found from the first set bit of the bitmap above
pub lifted-some : (lower upper : List ℕ) (from r : ℕ) → Summarizes lower upper
    → IsFirstFrom (has upper) from (Some r)
    → IsFirstFrom (is_filled lower) from (Some r)
lifted-some lower upper from r h f = (
  f.0,
  sym (h.same r) ∙ f.1,
  λ k low high. sym (h.same k)
      ∙ f.2 k low high,
)

pub lifted-none : (lower upper : List ℕ) (from : ℕ) → Summarizes lower upper
    → IsFirstFrom (has upper) from None
    → IsFirstFrom (is_filled lower) from None
lifted-none lower upper from h f = λ k low. sym (h.same k) ∙ f k low

pub first-past : (p q : ℕ → Bool) (from to r : ℕ) → ((k : ℕ) → p k ≡ q k)
    → IsFirstFrom p from (Some r) → to ≤ r → IsFirstIn q from to None
first-past p q from to r same h le = λ k low high. sym (same k) ∙ h.2 k low (omega arith)
