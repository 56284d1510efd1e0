-- Between neighboring endpoints the row and the chain of an address do not change. If no range
-- contains the address, both are empty.
use Rattle.std.proofs.Common.{◌≡◌, ◌⊎◌, ℕ, ◌<◌, ◌≤◌, List, [], ◌∷◌, ◌++◌, Bool, true, false, cond}
use Rattle.std.proofs.Common.{◌&&◌, refl, ap, sym, ◌∙◌, subst, inl}
use Rattle.std.proofs.Common.{inr, arith, map}
use Rattle.std.specs.Prelude.{None, option_map, nat_lt, nat_eq, filter}
use Rattle.std.specs.List.{AllByRecursion, list_any}
use Rattle.std.proofs.lemmas.Bool.Decides.{nat_tests}
use Rattle.dwarf_lines.specs.declared.row.Row.{Row}
use Rattle.dwarf_ranges.specs.declared.range.Range.{Range}
use Rattle.dwarf_walk.specs.declared.scope_kind.ScopeKind.TheVariants.{Subprogram}
use Rattle.dwarf_entries.specs.Scopes.{Scope}
use Rattle.addr_table.specs.Rows.{Cover, holds, covers_of, row_at}
use Rattle.addr_table.specs.Chains.{is_kind, chain_below, chain_of}
use Rattle.addr_table.specs.Segments.{is_nonempty, row_ranges, scope_ranges, ranges_of, with_end}
use Rattle.addr_table.specs.Segments.{ends_of, AreConstantBetweenEnds}
use Rattle.addr_table.proofs.Scanning.Lists.{each_append, find-same, any-same, find_none}

-- no endpoint is above e and at or below a
abbrev pub IsApart : ℕ → ℕ → ℕ → Type 0
IsApart e a x = (x ≤ e) ⊎ (a < x)

-- so a range contains both addresses or neither
pub holds-same : (e a : ℕ) (r : Range) → e ≤ a → IsApart e a r.from → IsApart e a r.to
    → holds a r ≡ holds e r
holds-same e a r le f t = grind (arith, nat_tests)

-- an empty range contains no address
pub holds-empty : (a : ℕ) (r : Range) → is_nonempty r ≡ false → holds a r ≡ false
holds-empty a r h = grind (arith, nat_tests)

-- what holds for each number of a list with one inserted, holds for that number and for the list
pub with_end-each : (P : ℕ → Type 0) (x : ℕ) (ys : List ℕ) → AllByRecursion P (with_end x ys)
    → P x × AllByRecursion P ys
with_end-each P x [] h = (h.0, tt)
with_end-each P x (y ∷ ys) h = with_end_cases (nat_lt x y) (nat_eq x y) refl (with_end-each P x ys)
    h
  where
    with_end_cases : (lt eq : Bool) → nat_eq x y ≡ eq
        → (AllByRecursion P (with_end x ys) → P x × AllByRecursion P ys)
        → AllByRecursion P (cond lt (x ∷ y ∷ ys) (cond eq (y ∷ ys) (y ∷ with_end x ys)))
        → P x × AllByRecursion P (y ∷ ys)
    with_end_cases true eq is further h = (h.0, (h.1.0, h.1.1))
    with_end_cases false true is further h = let same : y ≡ x = grind (arith, nat_tests) in
        (subst P same h.0, h)
    with_end_cases false false is further h = let rest = further h.1 in (rest.0, (h.0, rest.1))

-- what holds for each endpoint holds for both endpoints of each range
pub ends-each : (P : ℕ → Type 0) (rs : List Range) → AllByRecursion P (ends_of rs)
    → AllByRecursion (λ r. P r.from × P r.to) rs
unfolding ends_of
ends-each P [] h = tt
ends-each P (r ∷ rs) h =
    let outer = with_end-each P r.from (with_end r.to (ends_of rs)) h in
    let inner = with_end-each P r.to (ends_of rs) outer.1 in
    ((outer.0, inner.0), ends-each P rs inner.1)

-- ---- from ranges to rows and scopes: two tests that agree on all ranges give the same result

-- two tests that agree on each range
abbrev pub Agree : (Range → Bool) → (Range → Bool) → List Range → Type 0
Agree p q rs = AllByRecursion (λ r. p r ≡ q r) rs

-- tests that agree on empty ranges and on nonempty ranges agree on all ranges
pub all-agree : (p q : Range → Bool) (rs : List Range)
    → ((r : Range) → is_nonempty r ≡ false → p r ≡ q r)
    → Agree p q (filter is_nonempty rs) → Agree p q rs
all-agree p q [] none h = tt
all-agree p q (r ∷ rs) none h = cases (is_nonempty r) refl (all-agree p q rs none) h
  where
    cases : (full : Bool) → is_nonempty r ≡ full
        → (Agree p q (filter is_nonempty rs) → Agree p q rs)
        → Agree p q (cond full (r ∷ filter is_nonempty rs) (filter is_nonempty rs))
        → Agree p q (r ∷ rs)
    cases true is further h = (h.0, further h.1)
    cases false is further h = (none r is, further h)

-- covers on whose ranges the tests agree
abbrev pub CoversAgree : (Range → Bool) → (Range → Bool) → List Cover → Type 0
CoversAgree p q covers = AllByRecursion (λ c. p c.range ≡ q c.range) covers

pub covers-agree : (p q : Range → Bool) (covers : List Cover)
    → Agree p q (map (λ c. c.range) covers) → CoversAgree p q covers
covers-agree p q [] h = tt
covers-agree p q (c ∷ covers) h = (h.0, covers-agree p q covers h.1)

-- scopes on whose ranges the tests agree
abbrev pub ScopesAgree : (Range → Bool) → (Range → Bool) → List Scope → Type 0
ScopesAgree p q scopes = AllByRecursion (λ s. list_any p s.ranges ≡ list_any q s.ranges) scopes

pub scopes-agree : (p q : Range → Bool) (scopes : List Scope) → Agree p q (scope_ranges scopes)
    → ScopesAgree p q scopes
scopes-agree p q [] h = tt
scopes-agree p q (s ∷ scopes) h =
    let parts = each_append (λ r. p r ≡ q r) s.ranges (scope_ranges scopes) h in
    (any-same p q s.ranges parts.0, scopes-agree p q scopes parts.1)

-- the chains of two addresses are equal if each scope contains both addresses or neither
pub chain_below-same : (e a end : ℕ) (scopes : List Scope) → ScopesAgree (holds a) (holds e) scopes
    → chain_below a end scopes ≡ chain_below e end scopes
unfolding chain_below
chain_below-same e a end [] h = refl
chain_below-same e a end (s ∷ later) h =
    rw (h.0, chain_below-same e a s.«end» later h.1, chain_below-same e a end later h.1) refl

pub chain-same : (e a : ℕ) (scopes : List Scope) → ScopesAgree (holds a) (holds e) scopes
    → chain_of a scopes ≡ chain_of e scopes
unfolding chain_of
chain-same e a [] h = refl
chain-same e a (s ∷ later) h = rw (
  h.0,
  chain_below-same e a s.«end» later h.1,
  chain-same e a later h.1,
) refl

pub row-same : (e a : ℕ) (rows : List Row) → CoversAgree (holds a) (holds e) (covers_of rows)
    → row_at rows a ≡ row_at rows e
unfolding row_at
row-same e a rows h = ap (option_map (λ c. c.row))
    (find-same (λ c. holds a c.range) (λ c. holds e c.range) (covers_of rows) h)

-- the theorem
pub constant_between_ends : AreConstantBetweenEnds
constant_between_ends rows scopes e a le h =
    let ends = ends-each (IsApart e a) (ranges_of rows scopes) h in
    let same = agree (ranges_of rows scopes) ends in
    let all =
    all-agree (holds a) (holds e) (row_ranges rows ++ scope_ranges scopes)
    (λ r is. holds-empty a r is ∙ sym (holds-empty e r is)) same in
    let parts = each_append (λ r. holds a r ≡ holds e r) (row_ranges rows) (scope_ranges scopes)
    all in (
      row-same e a rows (covers-agree (holds a) (holds e) (covers_of rows) parts.0),
      chain-same e a scopes (scopes-agree (holds a) (holds e) scopes parts.1),
    )
  where
    agree : (rs : List Range) → AllByRecursion (λ r. IsApart e a r.from × IsApart e a r.to) rs
        → Agree (holds a) (holds e) rs
    agree [] h = tt
    agree (r ∷ rs) h = (holds-same e a r le h.0.0 h.0.1, agree rs h.1)

-- ---- an address that no range contains

pub chain-nowhere : (a : ℕ) (scopes : List Scope) → ScopesAgree (holds a) (λ _. false) scopes
    → chain_of a scopes ≡ []
unfolding chain_of
chain-nowhere a [] h = refl
chain-nowhere a (s ∷ later) h =
    let never : list_any (holds a) s.ranges ≡ false = h.0 ∙ none s.ranges in
    step (is_kind Subprogram s.kind) (list_any (holds a) s.ranges) never (chain-nowhere a later h.1)
  where
    none : (rs : List Range) → list_any (λ _. false) rs ≡ false
    none [] = refl
    none (r ∷ rs) = none rs

    step : (kind any : Bool) → any ≡ false → chain_of a later ≡ []
        → cond (kind && any) (s ∷ chain_below a s.«end» later) (chain_of a later) ≡ []
    step kind true is rest = cc
    step true false is rest = rest
    step false false is rest = rest

pub row-nowhere : (a : ℕ) (rows : List Row)
    → AllByRecursion (λ c. holds a c.range ≡ false) (covers_of rows) → row_at rows a ≡ None
unfolding row_at
row-nowhere a rows h = ap (option_map (λ c. c.row))
    (find_none (λ c. holds a c.range) (covers_of rows) h)

-- all endpoints are above the address, or none is
abbrev pub IsOutside : ℕ → List ℕ → Type 0
IsOutside a ends = AllByRecursion (λ x. a < x) ends ⊎ AllByRecursion (λ x. x ≤ a) ends

pub nothing-outside : (rows : List Row) (scopes : List Scope) (a : ℕ)
    → IsOutside a (ends_of (ranges_of rows scopes))
    → (row_at rows a ≡ None) × (chain_of a scopes ≡ [])
nothing-outside rows scopes a h =
    let same = none_hold h in
    let all = all-agree (holds a) (λ _. false) (row_ranges rows ++ scope_ranges scopes)
    (λ r is. holds-empty a r is) same in
    let parts =
    each_append (λ r. holds a r ≡ false) (row_ranges rows) (scope_ranges scopes) all in (
      row-nowhere a rows (covers-agree (holds a) (λ _. false) (covers_of rows) parts.0),
      chain-nowhere a scopes (scopes-agree (holds a) (λ _. false) scopes parts.1),
    )
  where
    below : (rs : List Range) → AllByRecursion (λ r. (a < r.from) × (a < r.to)) rs
        → Agree (holds a) (λ _. false) rs
    below [] h = tt
    below (r ∷ rs) h = (grind (arith, nat_tests, h.0), below rs h.1)

    above : (rs : List Range) → AllByRecursion (λ r. (r.from ≤ a) × (r.to ≤ a)) rs
        → Agree (holds a) (λ _. false) rs
    above [] h = tt
    above (r ∷ rs) h = (grind (arith, nat_tests, h.0), above rs h.1)

    none_hold : IsOutside a (ends_of (ranges_of rows scopes))
        → Agree (holds a) (λ _. false) (ranges_of rows scopes)
    none_hold h = elim h [
      | inl low ↦ below (ranges_of rows scopes) (ends-each (λ x. a < x) (ranges_of rows scopes) low)
      | inr high ↦ above (ranges_of rows scopes)
          (ends-each (λ x. x ≤ a) (ranges_of rows scopes) high)
    ]
