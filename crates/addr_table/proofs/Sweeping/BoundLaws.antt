-- Bounds on the number of segments.
use Rattle.std.proofs.Common.{◌≡◌, ℕ, suc, ◌+◌, ◌*◌, ◌<◌, ◌≤◌, List, [], ◌∷◌, ◌++◌, length, map}
use Rattle.std.proofs.Common.{Bool, true, false, cond, refl, sym}
use Rattle.std.proofs.Common.{subst, inl, inr, arith}
use Rattle.std.specs.Prelude.{Option, Some, None, nat_lt, nat_eq, filter, flat_map, sum_by}
use Rattle.std.specs.List.{AllByRecursion}
use Rattle.std.proofs.lemmas.List.{length-append, length-map}
use Rattle.std.proofs.lemmas.List.Sums.{sum_by-cons}
use Rattle.dwarf_lines.specs.declared.row.Row.{Row}
use Rattle.dwarf_ranges.specs.declared.range.Range.{Range}
use Rattle.dwarf_entries.specs.Scopes.{Scope}
use Rattle.addr_table.specs.declared.place.Place.{Place}
use Rattle.addr_table.specs.Rows.{Cover, covers_from}
use Rattle.addr_table.specs.Places.{place_at}
use Rattle.addr_table.specs.Segments.{is_nonempty, row_ranges, scope_ranges, ranges_of, with_end}
use Rattle.addr_table.specs.Segments.{ends_of, segment_of, segments_between, segments_of}
use Rattle.addr_table.proofs.Scanning.Lists.{each-weaker, each-append}
use Rattle.addr_table.proofs.Searching.SegmentListLaws.{Rise, RiseFrom, ends_rise, with_end-rise}
use Rattle.addr_table.proofs.Searching.SegmentListLaws.{IsAmong}
use Rattle.addr_table.proofs.Searching.SegmentListLaws.{among-above, each-among}
use Rattle.addr_table.proofs.Endpoints.RangeEnds.{ends-all, among-put, among-more}

-- ---- an ascending list without duplicates is no longer than a list that contains its numbers

abbrev pub rising : List ℕ → List ℕ
rising [] = []
rising (x ∷ xs) = with_end x (rising xs)

rising-rise : (xs : List ℕ) → Rise (rising xs)
rising-rise [] = tt
rising-rise (x ∷ xs) = with_end-rise x (rising xs) (rising-rise xs)

put-length : (x : ℕ) (ys : List ℕ) → length (with_end x ys) ≤ length ys + 1
put-length x [] = omega arith
put-length x (y ∷ ys) = cases (nat_lt x y) (nat_eq x y) (put-length x ys)
  where
    cases : (less same : Bool) → length (with_end x ys) ≤ length ys + 1
        → length (cond less (x ∷ y ∷ ys) (cond same (y ∷ ys) (y ∷ with_end x ys))) ≤ length (y ∷ ys)
        + 1
    cases true same le = omega arith
    cases false true le = omega arith
    cases false false le = omega arith

rising-length : (xs : List ℕ) → length (rising xs) ≤ length xs
rising-length [] = omega arith
rising-length (x ∷ xs) = let a = put-length x (rising xs) in let b = rising-length xs in omega arith

rising-among : (z : ℕ) (xs : List ℕ) → IsAmong z xs → IsAmong z (rising xs)
rising-among z [] h = absurd h
rising-among z (x ∷ xs) h = elim h [
  | inl same ↦ let A : ℕ → Type 0 = λ n. IsAmong n (with_end x (rising xs)) in
      subst A (sym same) (among-put x (rising xs))
  | inr later ↦ among-more z x (rising xs) (rising-among z xs later)
]

rise-rest : (x : ℕ) (xs : List ℕ) → RiseFrom x xs → Rise xs
rise-rest x [] h = tt
rise-rest x (y ∷ ys) h = h.1

abbrev pub AllAmong : List ℕ → List ℕ → Type 0
AllAmong xs ys = AllByRecursion (λ x. IsAmong x ys) xs

-- if numbers above y are in a list of y and others, they are among the others
above-others : (y : ℕ) (ys xs : List ℕ) → AllByRecursion (λ x. y < x) xs → AllAmong xs (y ∷ ys)
    → AllAmong xs ys
above-others y ys [] up h = tt
above-others y ys (x ∷ xs) up h = (
  elim h.0 [ inl same ↦ (let lt : y < x = up.0 in absurd (omega arith)) | inr later ↦ later ],
  above-others y ys xs up.1 h.1,
)

above-all : (x : ℕ) (xs : List ℕ) → RiseFrom x xs → AllByRecursion (λ y. x < y) xs
above-all x xs h = each-weaker (λ y. IsAmong y xs) (λ y. x < y) (λ y a. among-above x y xs h a) xs
    (each-among xs)

pub fewer : (xs ys : List ℕ) → Rise xs → Rise ys → AllAmong xs ys → length xs ≤ length ys
fewer [] ys a b h = omega arith
fewer (x ∷ xs) [] a b h = absurd h.0
fewer (x ∷ xs) (y ∷ ys) a b h = elim h.0 [
  | inl same ↦
      let up : AllByRecursion (λ z. y < z) xs =
      each-weaker (λ z. x < z) (λ z. y < z) (λ z lt. omega arith) xs (above-all x xs a) in
      let rest = fewer xs ys (rise-rest x xs a) (rise-rest y ys b) (above-others y ys xs up h.1) in
      omega arith
  | inr later ↦
      let lt : y < x = among-above y x ys b later in
      let up : AllByRecursion (λ z. y < z) xs =
      each-weaker (λ z. x < z) (λ z. y < z) (λ z far. omega arith) xs (above-all x xs a) in
      let rest = fewer (x ∷ xs) ys a (rise-rest y ys b) (later, above-others y ys xs up h.1) in
      omega arith
]

-- ---- the endpoints are addresses of rows and endpoints of ranges of scopes

abbrev pub addresses : List Row → List ℕ
addresses rows = map (λ (r : Row). r.address) rows

abbrev pub both_ends : List Range → List ℕ
both_ends rs = flat_map (λ (r : Range). r.from ∷ r.to ∷ []) rs

abbrev pub BothAmong : List ℕ → List Range → Type 0
BothAmong ends rs = AllByRecursion (λ (r : Range). IsAmong r.from ends × IsAmong r.to ends) rs

more-among : (x : ℕ) (ends : List ℕ) (rs : List Range) → BothAmong ends rs → BothAmong (x ∷ ends) rs
more-among x ends rs h =
    each-weaker (λ (r : Range). IsAmong r.from ends × IsAmong r.to ends)
    (λ (r : Range). IsAmong r.from (x ∷ ends) × IsAmong r.to (x ∷ ends)) (λ r k. (inr k.0, inr k.1))
    rs h

rows-among : (n : ℕ) (rows : List Row) → BothAmong (addresses rows)
    (map (λ (c : Cover). c.range) (covers_from n rows))
rows-among n [] = tt
rows-among n (row ∷ []) = tt
rows-among n (row ∷ next ∷ rows) =
    cases row.«end»
    (more-among row.address (addresses (next ∷ rows))
    (map (λ (c : Cover). c.range) (covers_from (suc n) (next ∷ rows)))
    (rows-among (suc n) (next ∷ rows)))
  where
    cases : (b : Bool) → BothAmong (addresses (row ∷ next ∷ rows))
        (map (λ (c : Cover). c.range) (covers_from (suc n) (next ∷ rows)))
        → BothAmong (addresses (row ∷ next ∷ rows))
        (map (λ (c : Cover). c.range) (cond b (covers_from (suc n) (next ∷ rows))
        (record { row = n; range = record { from = row.address; to = next.address } }
        ∷ covers_from (suc n) (next ∷ rows))))
    cases true rest = rest
    cases false rest = ((inl refl, inr (inl refl)), rest)

ranges-among : (rs : List Range) → BothAmong (both_ends rs) rs
ranges-among [] = tt
ranges-among (r ∷ rs) = (
  (inl refl, inr (inl refl)),
  more-among r.from (r.to ∷ both_ends rs) rs
      (more-among r.to (both_ends rs) rs (ranges-among rs)),
)

left-among : (z : ℕ) (xs ys : List ℕ) → IsAmong z xs → IsAmong z (xs ++ ys)
left-among z [] ys h = absurd h
left-among z (x ∷ xs) ys h = elim h [
  | inl same ↦ inl same
  | inr later ↦ inr
      (left-among z xs ys later)
]

right-among : (z : ℕ) (xs ys : List ℕ) → IsAmong z ys → IsAmong z (xs ++ ys)
right-among z [] ys h = h
right-among z (x ∷ xs) ys h = inr (right-among z xs ys h)

both-among : (ends : List ℕ) (rs : List Range) → BothAmong ends rs
    → BothAmong ends (filter is_nonempty rs)
both-among ends [] h = tt
both-among ends (r ∷ rs) h = cases (is_nonempty r) (both-among ends rs h.1)
  where
    cases : (b : Bool) → BothAmong ends (filter is_nonempty rs)
        → BothAmong ends (cond b (r ∷ filter is_nonempty rs) (filter is_nonempty rs))
    cases true rest = (h.0, rest)
    cases false rest = rest

abbrev pub all_ends : List Row → List Scope → List ℕ
all_ends rows scopes = addresses rows ++ both_ends (scope_ranges scopes)

ends-few : (rows : List Row) (scopes : List Scope)
    → length (ends_of (ranges_of rows scopes)) ≤ length (all_ends rows scopes)
ends-few rows scopes =
    let A : ℕ → Type 0 = λ z. IsAmong z (rising (all_ends rows scopes)) in
    let L : ℕ → Type 0 = λ z. IsAmong z (all_ends rows scopes) in
    let whole : BothAmong (all_ends rows scopes) (row_ranges rows ++ scope_ranges scopes) =
    each-append (λ (r : Range). L r.from × L r.to) (row_ranges rows) (scope_ranges scopes)
    (each-weaker (λ (r : Range). IsAmong r.from (addresses rows) × IsAmong r.to (addresses rows))
    (λ (r : Range). L r.from × L r.to)
    (λ r k. (
      left-among r.from (addresses rows) (both_ends (scope_ranges scopes)) k.0,
      left-among r.to (addresses rows)
          (both_ends (scope_ranges scopes)) k.1,
    )) (row_ranges rows) (rows-among 0 rows))
    (each-weaker (λ (r : Range). IsAmong r.from (both_ends (scope_ranges scopes))
    × IsAmong r.to (both_ends (scope_ranges scopes)))
    (λ (r : Range). L r.from × L r.to) (λ r k. (
      right-among r.from (addresses rows) (both_ends (scope_ranges scopes)) k.0,
      right-among
          r.to (addresses rows) (both_ends (scope_ranges scopes)) k.1,
    )) (scope_ranges scopes) (ranges-among (scope_ranges scopes))) in
    let kept = both-among (all_ends rows scopes) (row_ranges rows ++ scope_ranges scopes) whole in
    let all = ends-all L (ranges_of rows scopes) kept in
    let up : AllAmong (ends_of (ranges_of rows scopes)) (rising (all_ends rows scopes)) =
    each-weaker L A (λ z h. rising-among z (all_ends rows scopes) h)
    (ends_of (ranges_of rows scopes)) all in
    let a =
    fewer (ends_of (ranges_of rows scopes)) (rising (all_ends rows scopes))
    (ends_rise (ranges_of rows scopes))
    (rising-rise (all_ends rows scopes)) up in
    let b = rising-length (all_ends rows scopes) in omega arith

both-length : (rs : List Range) → length (both_ends rs) ≡ 2 * length rs
both-length [] = refl
both-length (r ∷ rs) = let a = both-length rs in omega arith

scope-length : (scopes : List Scope) → length (scope_ranges scopes) ≡ sum_by (λ s. length s.ranges)
    scopes
scope-length [] = refl
scope-length (s ∷ scopes) =
    let a : length (s.ranges ++ scope_ranges scopes)
    ≡ length s.ranges + length (scope_ranges scopes) =
    length-append s.ranges (scope_ranges scopes) in
    let b : sum_by (λ s. length s.ranges) (s ∷ scopes)
    ≡ length s.ranges + sum_by (λ s. length s.ranges) scopes =
    sum_by-cons (λ (s : Scope). length s.ranges) s scopes in
    let c = scope-length scopes in omega arith

segments-few : (rows : List Row) (scopes : List Scope) (ends : List ℕ)
    → length (segments_between rows scopes ends) ≤ length ends
segments-few rows scopes [] = omega arith
segments-few rows scopes (e ∷ []) = omega arith
segments-few rows scopes (e ∷ f ∷ ends) =
    let rest = segments-few rows scopes (f ∷ ends) in
    let joined : length (segment_of e f (place_at rows scopes e) ++ segments_between rows scopes
    (f ∷ ends))
    ≡ length
    (segment_of e f (place_at rows scopes e)) + length (segments_between rows scopes (f ∷ ends)) =
    length-append (segment_of e f (place_at rows scopes e)) (segments_between rows scopes
    (f ∷ ends)) in
    let one = one (place_at rows scopes e) in omega arith
  where
    one : (p : Option Place) → length (segment_of e f p) ≤ 1
    one None = omega arith
    one (Some p) = omega arith

-- the theorem: at most two segments for each range, and one for each row
pub segments-bounded : (rows : List Row) (scopes : List Scope)
    → length (segments_of rows scopes) ≤ 2 * sum_by (λ s. length s.ranges) scopes + length rows
unfolding segments_of
segments-bounded rows scopes =
    let a = segments-few rows scopes (ends_of (ranges_of rows scopes)) in
    let b = ends-few rows scopes in
    let c : length (all_ends rows scopes) ≡ length (addresses rows) + length
    (both_ends (scope_ranges scopes)) =
    length-append (addresses rows) (both_ends (scope_ranges scopes)) in
    let d : length (addresses rows) ≡ length rows = length-map rows (λ (r : Row). r.address) in
    let e = both-length (scope_ranges scopes) in
    let f = scope-length scopes in omega arith
