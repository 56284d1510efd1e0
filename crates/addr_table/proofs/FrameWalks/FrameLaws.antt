-- The chain of an address, from its last scope to the outermost.
use Rattle.std.proofs.Common.{◌≡◌, ℕ, suc, ◌<◌, ◌≤◌, List, [], ◌∷◌, Bool, true, false, cond, ◌&&◌}
use Rattle.std.proofs.Common.{refl, ap, sym, ◌∙◌, subst, arith}
use Rattle.std.specs.Prelude.{Some, nat_lt, filter}
use Rattle.std.specs.List.{AllByRecursion}
use Rattle.std.proofs.lemmas.Bool.Decides.{nat_tests}
use Rattle.dwarf_walk.specs.declared.scope_kind.ScopeKind.TheVariants.{Subprogram, Inlined}
use Rattle.dwarf_entries.specs.Scopes.{Scope}
use Rattle.dwarf_entries.specs.Order.{AreNumbered, EndsWithin, AreNested}
use Rattle.addr_table.specs.Chains.{is_at, chain_below, chain_of, chain_among}
use Rattle.addr_table.specs.Places.{last}
use Rattle.addr_table.proofs.Scanning.Lists.{each-weaker}

-- ---- a chain among fewer scopes

abbrev pub AllChosen : (Scope → Bool) → List Scope → Type 0
AllChosen keep xs = AllByRecursion (λ s. keep s ≡ true) xs

-- scopes that are not in the chain may be left out
pub below-filter : (keep : Scope → Bool) (a end : ℕ) (xs : List Scope)
    → AllChosen keep (chain_below a end xs)
    → chain_below a end (filter keep xs) ≡ chain_below a end xs
unfolding chain_below
below-filter keep a end [] h = refl
below-filter keep a end (s ∷ later) h =
    cases (nat_lt s.number end && is_at Inlined a s) refl (keep s) refl h
    (below-filter keep a s.«end» later) (below-filter keep a end later)
  where
    dropped : false ≡ true → ⊥
    dropped e = cc

    cases : (taken : Bool) → (nat_lt s.number end && is_at Inlined a s) ≡ taken → (kept : Bool)
        → keep s ≡ kept
        → AllChosen keep (cond taken (s ∷ chain_below a s.«end» later) (chain_below a end later))
        → (AllChosen keep (chain_below a s.«end» later) → chain_below a s.«end» (filter keep later)
        ≡ chain_below a s.«end» later)
        → (AllChosen keep (chain_below a end later) → chain_below a end (filter keep later)
        ≡ chain_below a end later)
        → chain_below a end (cond kept (s ∷ filter keep later) (filter keep later))
        ≡ cond taken (s ∷ chain_below a s.«end» later)
        (chain_below a end later)
    cases true t true k h inside after = rw t (ap (λ (xs : List Scope). s ∷ xs) (inside h.1))
    cases true t false k h inside after = absurd (dropped (sym k ∙ h.0))
    cases false t true k h inside after = rw t (after h)
    cases false t false k h inside after = after h

pub chain_of-filter : (keep : Scope → Bool) (a : ℕ) (xs : List Scope)
    → AllChosen keep (chain_of a xs)
    → chain_of a (filter keep xs) ≡ chain_of a xs
unfolding chain_of
chain_of-filter keep a [] h = refl
chain_of-filter keep a (s ∷ later) h = cases (is_at Subprogram a s) refl (keep s) refl h
    (chain_of-filter keep a later)
  where
    dropped : false ≡ true → ⊥
    dropped e = cc

    cases : (taken : Bool) → is_at Subprogram a s ≡ taken → (kept : Bool) → keep s ≡ kept
        → AllChosen keep (cond taken (s ∷ chain_below a s.«end» later) (chain_of a later))
        → (AllChosen keep (chain_of a later) → chain_of a (filter keep later) ≡ chain_of a later)
        → chain_of a (cond kept (s ∷ filter keep later) (filter keep later))
        ≡ cond taken (s ∷ chain_below a s.«end» later)
        (chain_of a later)
    cases true t true k h after = rw t (ap (λ (xs : List Scope). s ∷ xs)
        (below-filter keep a s.«end» later h.1))
    cases true t false k h after = absurd (dropped (sym k ∙ h.0))
    cases false t true k h after = rw t (after h)
    cases false t false k h after = after h

-- ---- among scopes that enclose a number, each one that contains the address is in the chain

abbrev pub AllEnclose : ℕ → List Scope → Type 0
AllEnclose j xs = AllByRecursion (λ s. (s.number ≤ j) × (j < s.«end»)) xs

pub below-all : (a j end : ℕ) (xs : List Scope) → AllEnclose j xs → j < end
    → chain_below a end xs ≡ filter (is_at Inlined a) xs
unfolding chain_below
below-all a j end [] h lt = refl
below-all a j end (s ∷ later) h lt =
    let low : s.number ≤ j = h.0.0 in
    let inside : nat_lt s.number end ≡ true = grind (arith, nat_tests) in
    rw (inside, below-all a j s.«end» later h.1 h.0.1, below-all a j end later h.1 lt) refl

pub of-all : (a j : ℕ) (xs : List Scope) → AllEnclose j xs → chain_of a xs ≡ chain_among a xs
unfolding chain_of
of-all a j [] h = refl
of-all a j (s ∷ later) h = rw (below-all a j s.«end» later h.1 h.0.1, of-all a j later h.1) refl

-- ---- the scopes of a chain enclose its last one

numbers-from : (m total : ℕ) (xs : List Scope) → AreNumbered m total xs
    → AllByRecursion (λ s. m ≤ s.number) xs
numbers-from m total [] h = tt
numbers-from m total (s ∷ later) h =
    let a : s.number ≡ m = h.0 in (
      omega arith,
      each-weaker (λ (t : Scope). suc m ≤ t.number) (λ (t : Scope). m ≤ t.number)
          (λ t le. omega arith) later
          (numbers-from (suc m) total later h.3),
    )

-- a chain is empty, or all its scopes enclose its last one, whose number is at least m and below
-- the end
pub data Encloses (m end : ℕ) (chain : List Scope) : Type 0 where
  none : chain ≡ [] → Encloses m end chain
  some : (t : Scope) → last chain ≡ Some t → AllEnclose t.number chain → m ≤ t.number
      → t.number < end → Encloses m end chain

last-cons : (s t : Scope) (chain : List Scope) → last chain ≡ Some t → last (s ∷ chain) ≡ Some t
last-cons s t [] h = cc
last-cons s t (x ∷ chain) h = h

pub below-encloses : (a m end total : ℕ) (xs : List Scope) → AreNumbered m total xs → AreNested xs
    → EndsWithin end xs
    → Encloses m end (chain_below a end xs)
unfolding chain_below
below-encloses a m end total [] numbered nested within = none refl
below-encloses a m end total (s ∷ later) numbered nested within =
    cases (nat_lt s.number end && is_at Inlined a s) refl
    (below-encloses a (suc m) s.«end» total later numbered.3 nested.1 nested.0)
    (below-encloses a (suc m) end total later numbered.3 nested.1 within.1)
  where
    higher : (e : ℕ) (c : List Scope) → Encloses (suc m) e c → Encloses m e c
    higher e c (none is) = none is
    higher e c (some t is all low high) = some t is all (omega arith) high

    front : s.number < end → (c : List Scope) → Encloses (suc m) s.«end» c → Encloses m end (s ∷ c)
    front lt c (none is) =
        let a : s.number ≡ m = numbered.0 in
        let b : m < s.«end» = numbered.1 in
        let whole : last (s ∷ c) ≡ Some s = ap (λ (xs : List Scope). last (s ∷ xs)) is in
        let A : List Scope → Type 0 = λ xs. AllEnclose s.number (s ∷ xs) in
        let alone : AllEnclose s.number (s ∷ []) = ((omega arith, omega arith), tt) in
        some s whole (subst A (sym is) alone) (omega arith) lt
    front lt c (some t is all low high) =
        let a : s.number ≡ m = numbered.0 in
        let inner : s.«end» ≤ end = within.0 lt in
        some t (last-cons s t c is) ((omega arith, high), all) (omega arith) (omega arith)

    inside_end : (b : Bool) → (nat_lt s.number end && b) ≡ true → s.number < end
    inside_end b h = grind (arith, nat_tests)

    cases : (taken : Bool) → (nat_lt s.number end && is_at Inlined a s) ≡ taken
        → Encloses (suc m) s.«end» (chain_below a s.«end» later)
        → Encloses (suc m) end (chain_below a end later)
        → Encloses m end (cond taken (s ∷ chain_below a s.«end» later) (chain_below a end later))
    cases true t inside after = front (inside_end (is_at Inlined a s) t)
        (chain_below a s.«end» later) inside
    cases false t inside after = higher end (chain_below a end later) after

-- the whole chain is empty, or all its scopes enclose its last one
pub data Enclosed (chain : List Scope) : Type 0 where
  empty : chain ≡ [] → Enclosed chain
  whole : (t : Scope) → last chain ≡ Some t → AllEnclose t.number chain → Enclosed chain

pub of-encloses : (a m total : ℕ) (xs : List Scope) → AreNumbered m total xs → AreNested xs
    → Enclosed (chain_of a xs)
unfolding chain_of
of-encloses a m total [] numbered nested = empty refl
of-encloses a m total (s ∷ later) numbered nested =
    cases (is_at Subprogram a s) (below-encloses a (suc m) s.«end» total later numbered.3 nested.1
    nested.0)
    (of-encloses a (suc m) total later numbered.3 nested.1)
  where
    front : (c : List Scope) → Encloses (suc m) s.«end» c → Enclosed (s ∷ c)
    front c (none is) =
        let a : s.number ≡ m = numbered.0 in
        let b : m < s.«end» = numbered.1 in
        let A : List Scope → Type 0 = λ xs. AllEnclose s.number (s ∷ xs) in
        let alone : AllEnclose s.number (s ∷ []) = ((omega arith, omega arith), tt) in
        whole s (ap (λ (xs : List Scope). last (s ∷ xs)) is) (subst A (sym is) alone)
    front c (some t is all low high) =
        let a : s.number ≡ m = numbered.0 in
        whole t (last-cons s t c is) ((omega arith, high), all)

    cases : (taken : Bool) → Encloses (suc m) s.«end» (chain_below a s.«end» later)
        → Enclosed (chain_of a later)
        → Enclosed (cond taken (s ∷ chain_below a s.«end» later) (chain_of a later))
    cases true inside after = front (chain_below a s.«end» later) inside
    cases false inside after = after
