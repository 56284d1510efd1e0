-- The bounds of a search among segments, by the counts of lower buckets.
use Rattle.std.proofs.Common.{◌≡◌, ◌∙◌, ℕ, zero, suc, min, ◌+◌, ◌-◌, ◌*◌, ◌/◌, ◌^◌, ◌<◌, ◌≤◌}
use Rattle.std.proofs.Common.{List, [], ◌∷◌, length, get_or}
use Rattle.std.proofs.Common.{sym, ap, subst, inl, inr, arith}
use Rattle.std.proofs.Math.Nat.{div-mul-le_self}
use Rattle.std.proofs.lemmas.Nat.{le-div, pow_pos}
use Rattle.std.proofs.lemmas.Bool.{cases_lt}
use Rattle.std.proofs.lemmas.List.{get_or_default}
use Rattle.std.proofs.Math.ListN.{get_or-eq_default}
use Rattle.addr_table.specs.Segments.{Segment, AreDisjoint}
use Rattle.addr_table.specs.Private.Buckets.{bucket_of, AreBuckets, AreBounds, Fills}
use Rattle.addr_table.proofs.Elements.{each-at}
use Rattle.addr_table.proofs.Searching.SearchLaws.{no_segment}

by_lt : {X : Type 0} (a b : ℕ) → (a < b → X) → (b ≤ a → X) → X
by_lt a b f g = elim (cases_lt a b) [ inl lt ↦ f lt | inr le ↦ g le ]

-- a higher address is in the same bucket or a higher one
pub bucket-rises : (low shift a b : ℕ) → a ≤ b → bucket_of low shift a ≤ bucket_of low shift b
bucket-rises low shift a b le =
    let p : ℕ = 2 ^ shift in
    let some : 0 < p = pow_pos shift in
    let whole : (a - low) / p * p ≤ a - low = div-mul-le_self (a - low) p in
    le-div ((a - low) / p) (b - low) p some (omega (arith, whole, le))

-- an address in a lower bucket is lower
pub bucket-lower : (low shift a b : ℕ) → bucket_of low shift a < bucket_of low shift b → a < b
bucket-lower low shift a b lt = by_lt a b (λ less. less) (λ more.
    let rises = bucket-rises low shift b a more in absurd (omega (arith, rises, lt)))

-- the count of a bucket, or n if it has none
counted : (list : List Segment) (low shift n b : ℕ) (counts : List ℕ)
    → AreBuckets list low shift n counts → n ≡ length list
    → (get_or counts b n ≤ n)
    × ((m : ℕ) (d : Segment) → m < get_or counts b n → bucket_of low shift
    (get_or list m d).from < b)
    × ((m : ℕ) (d : Segment) → get_or counts b n ≤ m → m < length list
    → b ≤ bucket_of low shift (get_or list m d).from)
counted list low shift n b counts h is = by_lt b (length counts)
    (λ lt.
    let same : get_or counts b n ≡ get_or counts b 0 = get_or_default counts b n 0 lt in
    let N : ℕ → Type 0 = λ c. (c ≤ n)
    × ((m : ℕ) (d : Segment) → m < c → bucket_of low shift (get_or list m d).from < b)
    × ((m : ℕ) (d : Segment) → c ≤ m → m < length list
    → b ≤ bucket_of low shift (get_or list m d).from) in
    subst N (sym same)
    (h.within b lt, λ m d less. h.before b m d lt less, λ m d le less. h.after b m d lt le less))
    (λ ge.
    let none : get_or counts b n ≡ n = get_or-eq_default counts n ge in
    let N : ℕ → Type 0 = λ c. (c ≤ n)
    × ((m : ℕ) (d : Segment) → m < c → bucket_of low shift (get_or list m d).from < b)
    × ((m : ℕ) (d : Segment) → c ≤ m → m < length list
    → b ≤ bucket_of low shift (get_or list m d).from) in
    subst N (sym none) (
      omega arith,
      λ m d less. (let all = h.all m d less in omega (arith, all, ge)),
      λ m d le less. absurd (omega (arith, le, less, is)),
    ))

pub bounds-of : (list : List Segment) (low shift a n b c : ℕ) (counts : List ℕ)
    → AreBuckets list low shift n counts → n ≡ length list → b ≡ bucket_of low shift a → b < c
    → AreBounds list a (get_or counts b n - 1) (get_or counts c n)
bounds-of list low shift a n b c counts h is b_is more =
    let lower = counted list low shift n b counts h is in
    let upper = counted list low shift n c counts h is in
    let order : get_or counts b n ≤ get_or counts c n =
    by_lt (get_or counts c n) (get_or counts b n)
    (λ less.
    let l = lower.1 (get_or counts c n) no_segment less in
    let u = upper.2 (get_or counts c n) no_segment (omega arith)
    (let most = lower.0 in omega (arith, most, less, is)) in
    absurd (omega (arith, l, u, more)))
    (λ le. le) in
    record {
      order = omega (arith, order);
      within = (let most = upper.0 in omega (arith, most, is));
      before = λ d m last.
          (let in_lower = lower.1 m d (omega (arith, last)) in
          let less = bucket-lower low shift (get_or list m d).from a
          (omega (arith, in_lower, b_is)) in omega (arith, less));
      after = λ d some.
          (let in_upper = upper.2 (get_or counts c n) d (omega arith) some in
          bucket-lower low shift a (get_or list (get_or counts c n) d).from
          (omega (arith, in_upper, b_is, more)));
      some = λ some. omega (arith, order, some);
    }

-- The number of the next bucket saturates at 2^64-1. Neither 2^64-1 nor 2^64 has a count.
pub stopped : (counts : List ℕ) (b c n : ℕ) → c ≡ min (b + 1) (2 ^ 64 - 1)
    → length counts ≤ 2 ^ 64 - 1 → get_or counts c n ≡ get_or counts (b + 1) n
stopped counts b c n is short = by_lt (b + 1) (2 ^ 64)
    (λ lt. let same : c ≡ b + 1 = omega (arith, is, lt) in ap (λ x. get_or counts x n) same)
    (λ ge.
    let at : get_or counts c n ≡ n = get_or-eq_default counts n (omega (arith, is, ge, short)) in
    let after : get_or counts (b + 1) n ≡ n =
    get_or-eq_default counts n (omega (arith, ge, short)) in at ∙ sym after)

-- ---- counting the segments of the buckets

from-rises : (list : List Segment) (i m : ℕ) (d : Segment) → AreDisjoint list → i ≤ m
    → m < length list
    → (get_or list i d).from ≤ (get_or list m d).from
from-rises [] i m d h le lt = absurd (omega arith)
from-rises (c ∷ list) zero zero d h le lt = omega arith
from-rises (c ∷ list) zero (suc m) d h le lt =
    let later : c.to ≤ (get_or list m d).from =
    each-at (λ e. c.to ≤ e.from) list m d h.1 (omega arith) in
    let some : c.from < c.to = h.0 in omega arith
from-rises (c ∷ list) (suc i) zero d h le lt = absurd (omega arith)
from-rises (c ∷ list) (suc i) (suc m) d h le lt = from-rises list i m d h.2 (omega arith)
    (omega arith)

pub none-counted : (list : List Segment) (low shift : ℕ) → AreBuckets list low shift 0 []
none-counted list low shift = record {
  before = λ b m d none less. absurd (omega arith);
  after = λ b m d none le less. absurd (omega arith);
  within = λ b none. absurd (omega arith);
  all = λ m d less. absurd (omega arith);
}

pub one-counted : (list : List Segment) (low shift i from bucket : ℕ) (counts counts' : List ℕ)
    → AreDisjoint list → i < length list → ((d : Segment) → (get_or list i d).from ≡ from)
    → bucket ≡ bucket_of low shift from → AreBuckets list low shift i counts
    → Fills counts counts' bucket i → bucket < length counts'
    → AreBuckets list low shift (i + 1) counts'
one-counted list low shift i from bucket counts counts' disjoint lt from_is is h f enough = record {
  before = λ b m d within less. by_lt b (length counts)
      (λ old. h.before b m d old (let same = f.old b old in omega (arith, same, less)))
      (λ new. (let at = f.new b new within in
      let all = h.all m d (omega (arith, at, less)) in omega (arith, all, new)));
  after = λ b m d within le less. by_lt b (length counts)
      (λ old. h.after b m d old (let same = f.old b old in omega (arith, same, le)) less)
      (λ new. (let at = f.new b new within in
      let upto = f.upto b new within in
      let rise = from-rises list i m d disjoint (omega (arith, at, le)) less in
      let first : (get_or list i d).from ≡ from = from_is d in
      let rises = bucket-rises low shift from (get_or list m d).from (omega (arith, rise, first)) in
      omega (arith, upto, is, rises)));
  within = λ b within. by_lt b (length counts)
      (λ old. (let same = f.old b old in let was = h.within b old in omega (arith, same, was)))
      (λ new. (let at = f.new b new within in omega (arith, at)));
  all = λ m d less. by_lt m i
      (λ old. (let was = h.all m d old in let more = f.longer in omega (arith, was, more)))
      (λ last.
      let same : m ≡ i = omega (arith, last, less) in
      let B : ℕ → Type 0 = λ x. bucket_of low shift (get_or list x d).from < length counts' in
      let F : ℕ → Type 0 = λ x. bucket_of low shift x < length counts' in
      subst B (sym same) (subst F (sym (from_is d)) (omega (arith, enough, is))));
}
