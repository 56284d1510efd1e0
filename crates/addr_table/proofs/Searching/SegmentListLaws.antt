-- The segment that contains an address gives its place.
use Rattle.std.proofs.Common.{◌≡◌, ◌⊎◌, ℕ, ◌<◌, ◌≤◌, List, [], ◌∷◌, ◌++◌, Bool, true, false, cond}
use Rattle.std.proofs.Common.{◌&&◌, refl, ap, sym, ◌∙◌, subst, inl}
use Rattle.std.proofs.Common.{inr, arith}
use Rattle.std.specs.Prelude.{Option, Some, None, find, option_and_then, nat_lt, nat_le, nat_eq}
use Rattle.std.specs.List.{AllByRecursion}
use Rattle.std.proofs.lemmas.Bool.Decides.{nat_tests}
use Rattle.std.proofs.lemmas.Bool.{cases_lt}
use Rattle.dwarf_lines.specs.declared.row.Row.{Row}
use Rattle.dwarf_ranges.specs.declared.range.Range.{Range}
use Rattle.dwarf_entries.specs.Scopes.{Scope}
use Rattle.addr_table.specs.declared.place.Place.{Place}
use Rattle.addr_table.specs.Rows.{row_at}
use Rattle.addr_table.specs.Chains.{chain_of}
use Rattle.addr_table.specs.Places.{scope_at, place_of, place_at}
use Rattle.addr_table.specs.Segments.{ranges_of, with_end, ends_of, Segment, segment_of}
use Rattle.addr_table.specs.Segments.{segments_between, segments_of}
use Rattle.addr_table.specs.Segments.{is_in, place_among, AreDisjoint}
use Rattle.addr_table.proofs.Scanning.Lists.{each-weaker, each-append}
use Rattle.addr_table.proofs.Sweeping.Constant.{IsApart, constant_between_ends, nothing-outside}

-- ---- ascending numbers

-- each number is above the one before, and the first is above e
abbrev pub RiseFrom : ℕ → List ℕ → Type 0
RiseFrom e [] = Unit {0}
RiseFrom e (f ∷ fs) = (e < f) × RiseFrom f fs

abbrev pub Rise : List ℕ → Type 0
Rise [] = Unit {0}
Rise (e ∷ es) = RiseFrom e es

pub with_end-from : (e x : ℕ) (ys : List ℕ) → e < x → RiseFrom e ys → RiseFrom e (with_end x ys)
with_end-from e x [] lt h = (lt, tt)
with_end-from e x (y ∷ ys) lt h = cases (nat_lt x y) (nat_eq x y) refl refl (with_end-from y x ys)
  where
    cases : (less same : Bool) → nat_lt x y ≡ less → nat_eq x y ≡ same
        → (y < x → RiseFrom y ys → RiseFrom y (with_end x ys))
        → RiseFrom e (cond less (x ∷ y ∷ ys) (cond same (y ∷ ys) (y ∷ with_end x ys)))
    cases true same is other further = let above : x < y = grind (arith, nat_tests) in
        (lt, (above, h.1))
    cases false true is other further = h
    cases false false is other further = let above : y < x = grind (arith, nat_tests) in
        (h.0, further above h.1)

pub with_end-rise : (x : ℕ) (ys : List ℕ) → Rise ys → Rise (with_end x ys)
with_end-rise x [] h = tt
with_end-rise x (y ∷ ys) h = cases (nat_lt x y) (nat_eq x y) refl refl
  where
    cases : (less same : Bool) → nat_lt x y ≡ less → nat_eq x y ≡ same
        → Rise (cond less (x ∷ y ∷ ys) (cond same (y ∷ ys) (y ∷ with_end x ys)))
    cases true same is other = let above : x < y = grind (arith, nat_tests) in (above, h)
    cases false true is other = h
    cases false false is other = let above : y < x = grind (arith, nat_tests) in
        with_end-from y x ys above h

pub ends_rise : (rs : List Range) → Rise (ends_of rs)
unfolding ends_of
ends_rise [] = tt
ends_rise (r ∷ rs) = with_end-rise r.from (with_end r.to (ends_of rs))
    (with_end-rise r.to (ends_of rs) (ends_rise rs))

-- the number is in the list
abbrev pub IsAmong : ℕ → List ℕ → Type 0
IsAmong x [] = ⊥
IsAmong x (y ∷ ys) = (x ≡ y) ⊎ IsAmong x ys

pub each-among : (xs : List ℕ) → AllByRecursion (λ x. IsAmong x xs) xs
each-among [] = tt
each-among (x ∷ xs) = (
  inl refl,
  each-weaker (λ y. IsAmong y xs) (λ y. IsAmong y (x ∷ xs))
      (λ y h. inr h) xs (each-among xs),
)

pub among-above : (e x : ℕ) (ys : List ℕ) → RiseFrom e ys → IsAmong x ys → e < x
among-above e x [] h is = absurd is
among-above e x (y ∷ ys) h is = elim is [
  | inl same ↦ let q : e < y = h.0 in omega arith
  | inr later ↦ let far : y < x = among-above y x ys h.1 later in let q : e < y = h.0 in omega arith
]

-- the number is at most e, or in the list
abbrev pub Splits : ℕ → List ℕ → ℕ → Type 0
Splits e ends x = (x ≤ e) ⊎ IsAmong x ends

pub splits-next : (e f : ℕ) (fs : List ℕ) → e < f → (x : ℕ) → Splits e (f ∷ fs) x → Splits f fs x
splits-next e f fs lt x h = elim h [
  | inl low ↦ inl (omega arith)
  | inr among ↦ elim among [ inl same ↦ inl (omega arith) | inr later ↦ inr later ]
]

pub splits-apart : (e f a : ℕ) (fs : List ℕ) → RiseFrom e (f ∷ fs) → a < f → (x : ℕ)
    → Splits e (f ∷ fs) x → IsApart e a x
splits-apart e f a fs rise lt x h = elim h [
  | inl low ↦ inl low
  | inr among ↦
      elim among [
        | inl same ↦ inr (omega arith)
        | inr later ↦ let far : f < x =
            among-above f x fs rise.1 later in inr (omega arith)
      ]
]

-- ---- segments that do not contain an address

pub not-in-segment : (a e f : ℕ) (p : Option Place) (later : List Segment)
    → (nat_le e a && nat_lt a f) ≡ false
    → find (is_in a) (segment_of e f p ++ later) ≡ find (is_in a) later
not-in-segment a e f None later h = refl
not-in-segment a e f (Some p) later h = rw h refl

pub segments-above : (rows : List Row) (scopes : List Scope) (a f : ℕ) (fs : List ℕ) → a < f
    → RiseFrom f fs
    → find (is_in a) (segments_between rows scopes (f ∷ fs)) ≡ None
segments-above rows scopes a f [] lt h = refl
segments-above rows scopes a f (g ∷ gs) lt h =
    let out : (nat_le f a && nat_lt a g) ≡ false = grind (arith, nat_tests) in
    let q : f < g = h.0 in
    let further : a < g = omega arith in
    not-in-segment a f g (place_at rows scopes f) (segments_between rows scopes (g ∷ gs)) out
    ∙ segments-above rows scopes a g gs further h.1

-- ---- the place of an address, among the segments

-- the place that place_among makes from a search result
abbrev pub place_by : ℕ → Option Segment → Option Place
place_by a found = option_and_then (λ segment. place_of segment.row segment.scope a) found

-- if a segment contains the address and has its row and scope, the search gives its place
pub in-segment : (a e f : ℕ) (row scope : Option ℕ) (later : List Segment)
    → (nat_le e a && nat_lt a f) ≡ true → find (is_in a) later ≡ None
    → place_by a (find (is_in a) (segment_of e f (place_of row scope e) ++ later))
    ≡ place_of row scope a
in-segment a e f None None later h none = rw none refl
in-segment a e f None (Some scope) later h none = rw h refl
in-segment a e f (Some row) scope later h none = rw h refl

pub place-nowhere : (rows : List Row) (scopes : List Scope) (a : ℕ)
    → (row_at rows a ≡ None) × (chain_of a scopes ≡ [])
    → place_at rows scopes a ≡ None
unfolding place_at
place-nowhere rows scopes a h = rw (h.0, h.1) refl

pub place_in-segments : (rows : List Row) (scopes : List Scope) (a e : ℕ) (ends : List ℕ)
    → RiseFrom e ends → e ≤ a
    → AllByRecursion (Splits e ends) (ends_of (ranges_of rows scopes))
    → place_by a (find (is_in a) (segments_between rows scopes (e ∷ ends))) ≡ place_at rows scopes a
unfolding place_at
place_in-segments rows scopes a e [] rise le splits =
    let below : AllByRecursion (λ x. x ≤ a) (ends_of (ranges_of rows scopes)) =
    each-weaker (Splits e []) (λ x. x ≤ a)
    (λ x h. elim h [ inl low ↦ omega arith | inr none ↦ absurd none ])
    (ends_of (ranges_of rows scopes)) splits in
    sym (place-nowhere rows scopes a (nothing-outside rows scopes a (inr below)))
place_in-segments rows scopes a e (f ∷ fs) rise le splits = elim (cases_lt a f) [
  | inl lt ↦
      let held : (nat_le e a && nat_lt a f) ≡ true = grind (arith, nat_tests) in
      let same =
      constant_between_ends rows scopes e a le
      (each-weaker (Splits e (f ∷ fs)) (IsApart e a) (splits-apart e f a fs rise lt)
      (ends_of (ranges_of rows scopes)) splits) in
      in-segment a e f (row_at rows e) (scope_at scopes e) (segments_between rows scopes (f ∷ fs))
      held
      (segments-above rows scopes a f fs lt rise.1)
      ∙ rw (same.0, same.1) refl
  | inr ge ↦
      let out : (nat_le e a && nat_lt a f) ≡ false = grind (arith, nat_tests) in
      let q : e < f = rise.0 in
      ap (place_by a) (not-in-segment a e f (place_at rows scopes e) (segments_between rows scopes
      (f ∷ fs))
      out)
      ∙ place_in-segments rows scopes a f fs rise.1 ge
      (each-weaker (Splits e (f ∷ fs)) (Splits f fs) (splits-next e f fs q)
      (ends_of (ranges_of rows scopes)) splits)
]

-- the theorem: the segments give the place of every address
pub place_among-segments : (rows : List Row) (scopes : List Scope) (a : ℕ)
    → place_among (segments_of rows scopes) a ≡ place_at rows scopes a
unfolding segments_of
place_among-segments rows scopes a = by_ends (ends_of (ranges_of rows scopes)) refl
    (ends_rise (ranges_of rows scopes))
  where
    by_ends : (ends : List ℕ) → ends_of (ranges_of rows scopes) ≡ ends → Rise ends
        → place_by a (find (is_in a) (segments_between rows scopes ends)) ≡ place_at rows scopes a
    by_ends [] is rise =
        let none : AllByRecursion (λ x. a < x) (ends_of (ranges_of rows scopes)) = rw is tt in
        sym (place-nowhere rows scopes a (nothing-outside rows scopes a (inl none)))
    by_ends (e ∷ ends) is rise = elim (cases_lt a e) [
      | inl lt ↦
          let P : List ℕ → Type 0 = AllByRecursion (λ x. a < x) in
          let above : AllByRecursion (λ x. a < x) (e ∷ ends) = (
            lt,
            each-weaker (λ x. IsAmong x ends) (λ x. a < x)
                (λ x h. let far : e < x = among-above e x ends rise h in omega arith) ends
                (each-among ends),
          ) in
          ap (place_by a) (segments-above rows scopes a e ends lt rise)
          ∙ sym (place-nowhere rows scopes a
          (nothing-outside rows scopes a (inl (subst P (sym is) above))))
      | inr ge ↦
          let P : List ℕ → Type 0 = AllByRecursion (Splits e ends) in
          let low : e ≤ e = omega arith in
          let splits : AllByRecursion (Splits e ends) (e ∷ ends) = (
            inl low,
            each-weaker (λ x. IsAmong x ends) (Splits e ends) (λ x h. inr h) ends
                (each-among ends),
          ) in
          place_in-segments rows scopes a e ends rise ge (subst P (sym is) splits)
    ]

-- ---- segments are in ascending order

pub segments-begin : (rows : List Row) (scopes : List Scope) (m e : ℕ) (ends : List ℕ) → m ≤ e
    → RiseFrom e ends
    → AllByRecursion (λ c. m ≤ c.from) (segments_between rows scopes (e ∷ ends))
segments-begin rows scopes m e [] le rise = tt
segments-begin rows scopes m e (f ∷ fs) le rise =
    let q : e < f = rise.0 in
    let further : m ≤ f = omega arith in
    each-append (λ (c : Segment). m ≤ c.from) (segment_of e f (place_at rows scopes e))
    (segments_between rows scopes (f ∷ fs))
    (one (place_at rows scopes e)) (segments-begin rows scopes m f fs further rise.1)
  where
    one : (p : Option Place) → AllByRecursion (λ (c : Segment). m ≤ c.from) (segment_of e f p)
    one None = tt
    one (Some p) = (le, tt)

pub segments-disjoint : (rows : List Row) (scopes : List Scope) (ends : List ℕ) → Rise ends
    → AreDisjoint (segments_between rows scopes ends)
segments-disjoint rows scopes [] rise = tt
segments-disjoint rows scopes (e ∷ []) rise = tt
segments-disjoint rows scopes (e ∷ f ∷ fs) rise =
    one (place_at rows scopes e) (segments-disjoint rows scopes (f ∷ fs) rise.1)
  where
    one : (p : Option Place) → AreDisjoint (segments_between rows scopes (f ∷ fs))
        → AreDisjoint (segment_of e f p ++ segments_between rows scopes (f ∷ fs))
    one None later = later
    one (Some p) later = let same : f ≤ f = omega arith in
        (rise.0, segments-begin rows scopes f f fs same rise.1, later)

pub segments_are_disjoint : (rows : List Row) (scopes : List Scope) → AreDisjoint
    (segments_of rows scopes)
unfolding segments_of
segments_are_disjoint rows scopes = segments-disjoint rows scopes (ends_of (ranges_of rows scopes))
    (ends_rise (ranges_of rows scopes))
