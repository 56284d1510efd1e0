-- The entries below an entry, by indexes and by the number of scopes before them.
use Rattle.dwarf_entries.proofs.Common
use Common.{◌≡◌, ◌↔◌, ℕ, ◌+◌, ◌-◌, ◌<◌, ◌≤◌, List, Bool, true, Some, take, drop, ap, ◌∙◌, arith}
use Common.{nat_lt, count_by, slice_get, get_or_from_slice_get, slice_get_within, Die, below}
use Common.{IsBelow, is_scope, prefix_len, count_by_more_yes, length-drop, sum_by-append}
use Common.{prefix_len_passes, prefix_len_stops, prefix_len-le-length, get_or-drop, take-add, cond}
use Common.{sum_by-take-le, take-take}

module _ {X : Type 0} (p : X → Bool) (xs : List X) where
  -- The number of elements before an index that pass the test.
  abbrev counted : ℕ → ℕ
  counted place = count_by p (take place xs)

  counted-add : (a b : ℕ) → counted (a + b) ≡ counted a + count_by p (take b (drop a xs))
  counted-add a b = grind (arith, take-add, sum_by-append)

  pub counted-rises : (a b : ℕ) → a ≤ b → counted a ≤ counted b
  counted-rises a b le =
      rw (← take-take a b xs le) (sum_by-take-le (λ (x : X). cond (p x) 1 0) (take b xs) a)

  -- An element that passes is counted after its index, and not before.
  pub counted-one : (place : ℕ) (d : X) → slice_get xs place ≡ Some d → p d ≡ true
      → counted (place + 1) ≡ counted place + 1
  counted-one place d is passes = count_by_more_yes p xs place d (slice_get_within xs place d is)
      (ap p (get_or_from_slice_get xs place d d is) ∙ passes)

  counted-before : (place : ℕ) (d : X) → slice_get xs place ≡ Some d → p d ≡ true → (end : ℕ)
      → (counted place < counted end) ↔ (place < end)
  counted-before place d is passes end =
      grind (arith, counted-rises end place, counted-rises (place + 1) end, counted-one)

-- The index after the entries below an entry.
abbrev pub past_below : List Die → ℕ → Die → ℕ
past_below dies i outer = i + 1 + prefix_len (λ d. nat_lt outer.depth d.depth) (drop (i + 1) dies)

from-below : (dies : List Die) (i j : ℕ) (outer : Die) → slice_get dies i ≡ Some outer
    → IsBelow dies j i → (i < j) × (j < past_below dies i outer)
from-below dies i j outer is h =
    let deeper : Die → Bool = λ d. nat_lt outer.depth d.depth in
    let rest : List Die = drop (i + 1) dies in
    let m : ℕ = prefix_len deeper rest in
    let size = length-drop (i + 1) dies in
    let stops = prefix_len_stops deeper rest outer in
    let at_m = get_or-drop (i + 1) dies m outer in
    let here = get_or_from_slice_get dies i outer outer is in
    (h.0, grind (arith, h.1))

to-below : (dies : List Die) (i j : ℕ) (outer : Die) → slice_get dies i ≡ Some outer → i < j
    → j < past_below dies i outer → IsBelow dies j i
to-below dies i j outer is before within =
    let deeper : Die → Bool = λ d. nat_lt outer.depth d.depth in
    let rest : List Die = drop (i + 1) dies in
    let size = length-drop (i + 1) dies in
    let le = prefix_len-le-length deeper rest in (
      before,
      omega (arith, before, within, size, le),
      λ k d lt up_to.
          let q : ℕ = k - (i + 1) in
          let place : i + 1 + q ≡ k = omega (arith, lt) in
          let passes = prefix_len_passes deeper rest q d (omega (arith, place, up_to, within)) in
          let here = get_or_from_slice_get dies i outer d is in
          let there = get_or-drop (i + 1) dies q d in
          grind arith,
    )

-- The number of scopes before an index of a list.
abbrev number : List Die → ℕ → ℕ
number dies place = count_by is_scope (take place dies)

-- The end of a scope, computed by counting the scopes below it, is the number of scopes before the
-- index after those entries.
pub ends-are : (dies : List Die) (i : ℕ) (outer : Die) → slice_get dies i ≡ Some outer
    → is_scope outer ≡ true → number dies i + 1 + count_by is_scope
    (below outer (drop (i + 1) dies)) ≡ number dies (past_below dies i outer)
ends-are dies i outer is scope =
    let more = counted-one is_scope dies i outer is scope in
    grind (arith, more, counted-add is_scope dies (i + 1))

pub scopes-between : (dies : List Die) (i j : ℕ) (outer inner : Die) → slice_get dies i ≡ Some outer
    → slice_get dies j ≡ Some inner → is_scope outer ≡ true → is_scope inner ≡ true
    → IsBelow dies j i ↔ ((count_by is_scope (take i dies) < count_by is_scope (take j dies))
    × (count_by is_scope (take j dies) < count_by is_scope (take i dies) + 1 + count_by is_scope
    (below outer (drop (i + 1) dies))))
scopes-between dies i j outer inner outer_is inner_is outer_scope inner_scope =
    let first = counted-before is_scope dies i outer outer_is outer_scope j in
    let last = counted-before is_scope dies j inner inner_is inner_scope
    (past_below dies i outer) in
    let end = ends-are dies i outer outer_is outer_scope in
    let from = from-below dies i j outer outer_is in
    grind (arith, first, last, end, to-below)

-- ---- the end of a scope below another

below-trans : (dies : List Die) (i j k : ℕ) → IsBelow dies j i → IsBelow dies k j → IsBelow dies k i
below-trans dies i j k outer inner = grind arith

pub ends-within : (dies : List Die) (i j : ℕ) (outer inner : Die) → slice_get dies i ≡ Some outer
    → slice_get dies j ≡ Some inner → is_scope outer ≡ true → is_scope inner ≡ true
    → IsBelow dies j i → count_by is_scope (take j dies) + 1 + count_by is_scope
    (below inner (drop (j + 1) dies)) ≤ count_by is_scope (take i dies) + 1 + count_by is_scope
    (below outer (drop (i + 1) dies))
ends-within dies i j outer inner outer_is inner_is outer_scope inner_scope under =
    let k : ℕ = past_below dies i outer in
    let before = (from-below dies i j outer outer_is under).1 in
    let deeper = to-below dies j k inner inner_is before in
    let later = below-trans dies i j k under in
    let less = counted-rises is_scope dies (past_below dies j inner) k
    (grind (arith, deeper, later, from-below dies i k outer outer_is)) in
    let first = ends-are dies i outer outer_is outer_scope in
    let second = ends-are dies j inner inner_is inner_scope in
    grind (arith, first, second, less)
