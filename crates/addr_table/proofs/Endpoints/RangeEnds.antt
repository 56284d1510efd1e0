-- The endpoints of ranges as an ascending list, and the ranges with their keys.
use Rattle.std.proofs.Common.{◌≡◌, ◌⊎◌, ℕ, ◌<◌, ◌≤◌, List, [], ◌∷◌, ◌++◌, length, map, Bool, true}
use Rattle.std.proofs.Common.{false}
use Rattle.std.proofs.Common.{cond, refl, ap, sym, ◌∙◌, inl, inr, arith}
use Rattle.std.specs.Prelude.{nat_eq, nat_lt, filter}
use Rattle.std.specs.List.{AllByRecursion}
use Rattle.std.proofs.lemmas.Bool.Decides.{nat_tests}
use Rattle.dwarf_lines.specs.declared.row.Row.{Row}
use Rattle.dwarf_ranges.specs.declared.range.Range.{Range}
use Rattle.dwarf_entries.specs.Scopes.{Scope}
use Rattle.addr_table.specs.Rows.{Cover, covers_of}
use Rattle.addr_table.specs.Segments.{is_nonempty, row_ranges, scope_ranges, ranges_of, with_end}
use Rattle.addr_table.specs.Segments.{ends_of}
use Rattle.addr_table.specs.Private.Sweep.{Reach, key_of, row_reaches, reaches_in, scope_reaches}
use Rattle.addr_table.specs.Private.Sweep.{reaches_of}
use Rattle.addr_table.proofs.Scanning.Lists.{each-weaker}
use Rattle.addr_table.proofs.Searching.SegmentListLaws.{Rise, RiseFrom, IsAmong, among-above}

-- ---- ascending numbers above one of them

all-above : (c x : ℕ) (xs : List ℕ) → RiseFrom x xs → c ≤ x → filter (λ y. nat_lt c y) xs ≡ xs
all-above c x [] h le = refl
all-above c x (y ∷ ys) h le =
    let lt : x < y = h.0 in
    let t : nat_lt c y ≡ true = grind (arith, nat_tests) in
    rw t (ap (λ (zs : List ℕ). y ∷ zs) (all-above c y ys h.1 (omega arith)))

-- if no number is between e and f, the numbers above e are f and the numbers above f
abbrev pub Gap : ℕ → ℕ → List ℕ → Type 0
Gap e f ends = AllByRecursion (λ x. (x ≤ e) ⊎ (f ≤ x)) ends

pub above-next : (e f : ℕ) (ends : List ℕ) → Rise ends → IsAmong f ends → e < f → Gap e f ends
    → filter (λ x. nat_lt e x) ends ≡ f ∷ filter (λ x. nat_lt f x) ends
above-next e f [] h is lt gap = absurd is
above-next e f (x ∷ xs) h is lt gap = elim gap.0 [
  | inl low ↦
      let a : nat_lt e x ≡ false = grind (arith, nat_tests) in
      let b : nat_lt f x ≡ false = grind (arith, nat_tests) in
      rw (a, b) (above-next e f xs (rise-rest x xs h) (later low is) lt gap.1)
  | inr high ↦ at_it high is
]
  where
    rise-rest : (x : ℕ) (xs : List ℕ) → RiseFrom x xs → Rise xs
    rise-rest x [] h = tt
    rise-rest x (y ∷ ys) h = h.1

    later : x ≤ e → IsAmong f (x ∷ xs) → IsAmong f xs
    later low among = elim among [ inl same ↦ absurd (omega arith) | inr rest ↦ rest ]

    at_it : f ≤ x → IsAmong f (x ∷ xs) → filter (λ y. nat_lt e y) (x ∷ xs) ≡ f
        ∷ filter (λ y. nat_lt f y) (x ∷ xs)
    at_it high among = elim among [
      | inl same ↦
          let a : nat_lt e x ≡ true = grind (arith, nat_tests) in
          let b : nat_lt f x ≡ false = grind (arith, nat_tests) in
          rw (a, b)
          (ap (λ (zs : List ℕ). x ∷ zs) (all-above e x xs h (omega arith)
          ∙ sym (all-above f x xs h (omega arith)))
          ∙ ap (λ n. n ∷ filter (λ y. nat_lt f y) xs) (sym same))
      | inr rest ↦ let far : x < f = among-above x f xs h rest in absurd (omega arith)
    ]

-- the first number
pub first-next : (f : ℕ) (ends : List ℕ) → Rise ends → IsAmong f ends
    → AllByRecursion (λ x. f ≤ x) ends
    → ends ≡ f ∷ filter (λ x. nat_lt f x) ends
first-next f [] h is all = absurd is
first-next f (x ∷ xs) h is all = elim is [
  | inl same ↦
      let b : nat_lt f x ≡ false = grind (arith, nat_tests) in
      rw b (ap (λ (zs : List ℕ). x ∷ zs) (sym (all-above f x xs h (omega arith)))
      ∙ ap (λ n. n ∷ filter (λ y. nat_lt f y) xs) (sym same))
  | inr rest ↦ let far : x < f = among-above x f xs h rest in let low : f ≤ x = all.0 in
      absurd (omega arith)
]

pub none-next : (e : ℕ) (ends : List ℕ) → AllByRecursion (λ x. x ≤ e) ends
    → filter (λ x. nat_lt e x) ends ≡ []
none-next e [] h = refl
none-next e (x ∷ xs) h = let low : x ≤ e = h.0 in let a : nat_lt e x ≡ false =
    grind (arith, nat_tests) in rw a (none-next e xs h.1)

-- ---- the endpoints of ranges

pub among-put : (x : ℕ) (ys : List ℕ) → IsAmong x (with_end x ys)
among-put x [] = inl refl
among-put x (y ∷ ys) = cases (nat_lt x y) (nat_eq x y) refl (among-put x ys)
  where
    cases : (less same : Bool) → nat_eq x y ≡ same → IsAmong x (with_end x ys)
        → IsAmong x (cond less (x ∷ y ∷ ys) (cond same (y ∷ ys) (y ∷ with_end x ys)))
    cases true same is rest = inl refl
    cases false true is rest = inl (grind (arith, nat_tests))
    cases false false is rest = inr rest

pub among-more : (z x : ℕ) (ys : List ℕ) → IsAmong z ys → IsAmong z (with_end x ys)
among-more z x [] h = absurd h
among-more z x (y ∷ ys) h = cases (nat_lt x y) (nat_eq x y) (among-more z x ys)
  where
    cases : (less same : Bool) → (IsAmong z ys → IsAmong z (with_end x ys))
        → IsAmong z (cond less (x ∷ y ∷ ys) (cond same (y ∷ ys) (y ∷ with_end x ys)))
    cases true same rest = inr h
    cases false true rest = h
    cases false false rest = elim h [ inl is ↦ inl is | inr later ↦ inr (rest later) ]

abbrev pub EndsAmong : List ℕ → List Range → Type 0
EndsAmong ends rs = AllByRecursion (λ r. IsAmong r.from ends × IsAmong r.to ends) rs

pub ends-among : (rs : List Range) → EndsAmong (ends_of rs) rs
unfolding ends_of
ends-among [] = tt
ends-among (r ∷ rs) = (
  (
    among-put r.from (with_end r.to (ends_of rs)),
    among-more r.to r.from (with_end r.to (ends_of rs)) (among-put r.to (ends_of rs)),
  ),
  each-weaker (λ (x : Range). IsAmong x.from (ends_of rs) × IsAmong x.to (ends_of rs))
      (λ (x : Range). IsAmong x.from (with_end r.from (with_end r.to (ends_of rs))) × IsAmong x.to
      (with_end r.from (with_end r.to (ends_of rs))))
      (λ x h. (
        among-more x.from r.from (with_end r.to (ends_of rs))
            (among-more x.from r.to (ends_of rs) h.0),
        among-more x.to r.from
            (with_end r.to (ends_of rs)) (among-more x.to r.to (ends_of rs) h.1),
      ))
      rs (ends-among rs),
)

put-each : (P : ℕ → Type 0) (x : ℕ) (ys : List ℕ) → P x → AllByRecursion P ys
    → AllByRecursion P (with_end x ys)
put-each P x [] p h = (p, tt)
put-each P x (y ∷ ys) p h = cases (nat_lt x y) (nat_eq x y) (put-each P x ys p h.1)
  where
    cases : (less same : Bool) → AllByRecursion P (with_end x ys)
        → AllByRecursion P (cond less (x ∷ y ∷ ys) (cond same (y ∷ ys) (y ∷ with_end x ys)))
    cases true same rest = (p, h)
    cases false true rest = h
    cases false false rest = (h.0, rest)

pub ends-all : (P : ℕ → Type 0) (rs : List Range) → AllByRecursion (λ r. P r.from × P r.to) rs
    → AllByRecursion P (ends_of rs)
unfolding ends_of
ends-all P [] h = tt
ends-all P (r ∷ rs) h = put-each P r.from (with_end r.to (ends_of rs)) h.0.0
    (put-each P r.to (ends_of rs) h.0.1 (ends-all P rs h.1))

-- ---- the ranges with keys are the ranges

pub filtered-ranges : (rs : List Reach)
    → map (λ r. r.range) (filter (λ r. is_nonempty r.range) rs)
    ≡ filter is_nonempty (map (λ r. r.range) rs)
filtered-ranges [] = refl
filtered-ranges (r ∷ rs) = cases (is_nonempty r.range) (filtered-ranges rs)
  where
    cases : (b : Bool) → map (λ r. r.range) (filter (λ r. is_nonempty r.range) rs)
        ≡ filter is_nonempty (map (λ r. r.range) rs)
        → map (λ r. r.range) (cond b (r ∷ filter (λ r. is_nonempty r.range) rs)
        (filter (λ r. is_nonempty r.range) rs)) ≡ cond b
        (r.range ∷ filter is_nonempty (map (λ r. r.range) rs))
        (filter is_nonempty (map (λ r. r.range) rs))
    cases true rest = ap (λ (zs : List Range). r.range ∷ zs) rest
    cases false rest = rest

rows-same : (cs : List Cover)
    → map (λ (r : Reach). r.range) (map (λ (c : Cover). record { key = c.row; range = c.range }) cs)
    ≡ map (λ (c : Cover). c.range) cs
rows-same [] = refl
rows-same (c ∷ cs) = ap (λ (zs : List Range). c.range ∷ zs) (rows-same cs)

ranges-append : (xs ys : List Reach)
    → map (λ (r : Reach). r.range) (xs ++ ys) ≡ map (λ (r : Reach). r.range) xs
    ++ map (λ (r : Reach). r.range) ys
ranges-append [] ys = refl
ranges-append (x ∷ xs) ys = ap (λ (zs : List Range). x.range ∷ zs) (ranges-append xs ys)

one-same : (k : ℕ) (rs : List Range) → map (λ (r : Reach). r.range)
    (map (λ r. record { key = k; range = r }) rs) ≡ rs
one-same k [] = refl
one-same k (r ∷ rs) = ap (λ (zs : List Range). r ∷ zs) (one-same k rs)

scopes-same : (rows total : ℕ) (scopes : List Scope)
    → map (λ (r : Reach). r.range) (scope_reaches rows total scopes) ≡ scope_ranges scopes
scopes-same rows total [] = refl
scopes-same rows total (s ∷ scopes) =
    ranges-append (reaches_in rows total s) (scope_reaches rows total scopes)
    ∙ ap (λ (zs : List Range). zs ++ map (λ (r : Reach). r.range) (scope_reaches rows total scopes))
    (one-same (key_of rows total s.kind s.number) s.ranges)
    ∙ ap (λ (zs : List Range). s.ranges ++ zs) (scopes-same rows total scopes)

pub reaches-ranges : (rows : List Row) (scopes : List Scope)
    → map (λ (r : Reach). r.range) (reaches_of rows scopes) ≡ ranges_of rows scopes
unfolding reaches_of
reaches-ranges rows scopes =
    filtered-ranges (row_reaches rows ++ scope_reaches (length rows) (length scopes) scopes)
    ∙ ap (filter is_nonempty)
    (ranges-append (row_reaches rows) (scope_reaches (length rows) (length scopes) scopes)
    ∙ ap (λ (zs : List Range). zs ++ map (λ (r : Reach). r.range)
    (scope_reaches (length rows) (length scopes) scopes))
    (rows-same (covers_of rows))
    ∙ ap (λ (zs : List Range). row_ranges rows ++ zs)
    (scopes-same (length rows) (length scopes) scopes))
