-- The row and the chain of an address, as the standard defines them.
use Rattle.std.proofs.Common.{◌≡◌, ℕ, suc, ◌+◌, ◌<◌, ◌≤◌, List, [], ◌∷◌, ◌++◌, length, Bool, true}
use Rattle.std.proofs.Common.{false, cond, not, ◌&&◌, refl, ap, sym}
use Rattle.std.proofs.Common.{◌∙◌, subst, arith}
use Rattle.std.specs.Prelude.{Option, Some, None, find, option_map, nat_lt, nat_le}
use Rattle.std.specs.Option.{option_or}
use Rattle.std.specs.List.{AllByRecursion}
use Rattle.std.proofs.lemmas.Bool.Decides.{nat_tests}
use Rattle.std.proofs.lemmas.List.Folds.{find-append}
use Rattle.dwarf_lines.specs.declared.row.Row.{Row}
use Rattle.dwarf_lines.specs.Lines.{row_of}
use Rattle.dwarf_walk.specs.declared.scope_kind.ScopeKind.TheVariants.{Subprogram, Inlined}
use Rattle.dwarf_entries.specs.Scopes.{Scope}
use Rattle.addr_table.specs.Rows.{Cover, holds, covers_from, row_at}
use Rattle.dwarf_entries.specs.Order.{AreNumbered}
use Rattle.addr_table.specs.Chains.{is_at, chain_below, chain_of, next_below, IsChainFrom, IsChain}
use Rattle.addr_table.proofs.Scanning.Lists.{each-weaker, find-same, find_none}

-- ---- rows

moved : (n : ℕ) (o : Option ℕ) → option_map (λ k. suc n + k) o
    ≡ option_map (λ k. n + k) (option_map suc o)
moved n None = refl
moved n (Some k) = ap Some (omega arith)

first-from : (n : ℕ) (rows : List Row) (a : ℕ)
    → option_map (λ c. c.row) (find (λ c. holds a c.range) (covers_from n rows))
    ≡ option_map (λ k. n + k) (row_of rows a)
first-from n [] a = refl
first-from n (row ∷ []) a = refl
first-from n (row ∷ next ∷ rows) a = cases row.«end»
    (first-from (suc n) (next ∷ rows) a ∙ moved n (row_of (next ∷ rows) a))
  where
    zeroth : n ≡ n + 0
    zeroth = omega arith

    held : (le lt : Bool)
        → option_map (λ c. c.row) (find (λ c. holds a c.range) (covers_from (suc n) (next ∷ rows)))
        ≡ option_map (λ k. n + k)
        (option_map suc (row_of (next ∷ rows) a))
        → option_map (λ (c : Cover). c.row)
        (cond (le && lt) (Some (record {
          row = n;
          range =
              record { from = row.address; to = next.address };
        }))
        (find (λ c. holds a c.range) (covers_from (suc n) (next ∷ rows))))
        ≡ option_map (λ k. n + k) (cond (le && lt) (Some 0)
        (option_map suc (row_of (next ∷ rows) a)))
    held true true later = ap Some zeroth
    held true false later = later
    held false lt later = later

    cases : (e : Bool)
        → option_map (λ c. c.row) (find (λ c. holds a c.range) (covers_from (suc n) (next ∷ rows)))
        ≡ option_map (λ k. n + k)
        (option_map suc (row_of (next ∷ rows) a))
        → option_map (λ (c : Cover). c.row)
        (find (λ c. holds a c.range) (cond e (covers_from (suc n) (next ∷ rows))
        (record { row = n; range = record { from = row.address; to = next.address } }
        ∷ covers_from (suc n) (next ∷ rows))))
        ≡ option_map (λ k. n + k)
        (cond (not e && nat_le row.address a && nat_lt a next.address) (Some 0)
        (option_map suc (row_of (next ∷ rows) a)))
    cases true later = later
    cases false later = held (nat_le row.address a) (nat_lt a next.address) later

same-number : (o : Option ℕ) → option_map (λ k. 0 + k) o ≡ o
same-number None = refl
same-number (Some k) = ap Some (omega arith)

pub row-is-first : (rows : List Row) (a : ℕ) → row_at rows a ≡ row_of rows a
unfolding row_at
row-is-first rows a = first-from 0 rows a ∙ same-number (row_of rows a)

-- ---- chains

-- whether a scope is in the chain below an end
abbrev pub below_test : ℕ → ℕ → Scope → Bool
below_test a end t = nat_lt t.number end && is_at Inlined a t

numbers-low : (m total : ℕ) (front later : List Scope) (x : Scope)
    → AreNumbered m total (front ++ x ∷ later)
    → (x.number ≡ m + length front) × AllByRecursion (λ t. t.number ≤ x.number) (front ++ x ∷ [])
    × AllByRecursion
    (λ t. x.number < t.number) later
numbers-low m total [] later x h =
    let a : x.number ≡ m = h.0 in (
      omega arith,
      ((omega arith), tt),
      above (suc m) later h.3 (omega arith),
    )
  where
    above : (k : ℕ) (ts : List Scope) → AreNumbered k total ts → x.number < k
        → AllByRecursion (λ t. x.number < t.number) ts
    above k [] h lt = tt
    above k (t ∷ ts) h lt = let a : t.number ≡ k = h.0 in
        (omega arith, above (suc k) ts h.3 (omega arith))
numbers-low m total (y ∷ front) later x h =
    let rest = numbers-low (suc m) total front later x h.3 in
    let a : y.number ≡ m = h.0 in
    let b : x.number ≡ suc m + length front = rest.0 in
    (omega arith, (omega arith, rest.1), rest.2)

next-later : (a total : ℕ) (front later : List Scope) (x : Scope)
    → AreNumbered 0 total (front ++ x ∷ later)
    → next_below (front ++ x ∷ later) a x ≡ find (below_test a x.«end») later
next-later a total front later x h =
    let at = numbers-low 0 total front later x h in
    let p : Scope → Bool = λ t. nat_lt x.number t.number && nat_lt t.number x.«end» && is_at Inlined
    a t in
    ap (find (λ t. nat_lt x.number t.number && nat_lt t.number x.«end» && is_at Inlined a t))
    (sym (joined front))
    ∙ find-append (λ t. nat_lt x.number t.number && nat_lt t.number x.«end» && is_at Inlined a t)
    (front ++ x ∷ []) later
    ∙ ap (λ (o : Option Scope). option_or o
    (find (λ t. nat_lt x.number t.number && nat_lt t.number x.«end» && is_at Inlined a t)
    later))
    (find_none (λ t. nat_lt x.number t.number && nat_lt t.number x.«end» && is_at Inlined a t)
    (front ++ x ∷ []) (each-weaker
    (λ t. t.number ≤ x.number) (λ t. (nat_lt x.number t.number && nat_lt t.number x.«end» && is_at
    Inlined a t) ≡ false)
    (λ t le. low t le) (front ++ x ∷ []) at.1))
    ∙ find-same (λ t. nat_lt x.number t.number && nat_lt t.number x.«end» && is_at Inlined a t)
    (below_test a x.«end») later
    (each-weaker (λ t. x.number < t.number)
    (λ t. (nat_lt x.number t.number && nat_lt t.number x.«end» && is_at Inlined a t)
    ≡ below_test a x.«end» t) (λ t lt. high t lt)
    later at.2)
  where
    joined : (fs : List Scope) → (fs ++ x ∷ []) ++ later ≡ fs ++ x ∷ later
    joined [] = refl
    joined (f ∷ fs) = ap (λ (xs : List Scope). f ∷ xs) (joined fs)

    low : (t : Scope) → t.number ≤ x.number
        → (nat_lt x.number t.number && nat_lt t.number x.«end» && is_at Inlined a t) ≡ false
    low t le = let q : nat_lt x.number t.number ≡ false = grind (arith, nat_tests) in rw q refl

    high : (t : Scope) → x.number < t.number
        → (nat_lt x.number t.number && nat_lt t.number x.«end» && is_at Inlined a t)
        ≡ below_test a x.«end» t
    high t lt = let q : nat_lt x.number t.number ≡ true = grind (arith, nat_tests) in rw q refl

pub below-chain : (a end total : ℕ) (front xs : List Scope) → AreNumbered 0 total (front ++ xs)
    → IsChainFrom (front ++ xs) a (find (below_test a end) xs) (chain_below a end xs)
unfolding chain_below
below-chain a end total front [] h = tt
below-chain a end total front (x ∷ later) h =
    let same : (front ++ x ∷ []) ++ later ≡ front ++ x ∷ later = joined front in
    let N : List Scope → Type 0 = λ ss. AreNumbered 0 total ss in
    let C : ℕ → List Scope → Type 0 = λ e ss. IsChainFrom ss a (find (below_test a e) later)
    (chain_below a e later) in
    let inside : IsChainFrom (front ++ x ∷ later) a (find (below_test a x.«end») later)
    (chain_below a x.«end» later) =
    subst (C x.«end») same (below-chain a x.«end» total (front ++ x ∷ []) later
    (subst N (sym same) h)) in
    let after : IsChainFrom (front ++ x ∷ later) a (find (below_test a end) later)
    (chain_below a end later) =
    subst (C end) same (below-chain a end total (front ++ x ∷ []) later (subst N (sym same) h)) in
    let O : Option Scope → Type 0 = λ o. IsChainFrom (front ++ x ∷ later) a o
    (chain_below a x.«end» later) in
    cases (below_test a end x) (subst O (sym (next-later a total front later x h)) inside) after
  where
    joined : (fs : List Scope) → (fs ++ x ∷ []) ++ later ≡ fs ++ x ∷ later
    joined [] = refl
    joined (f ∷ fs) = ap (λ (xs : List Scope). f ∷ xs) (joined fs)

    cases : (taken : Bool) → IsChainFrom (front ++ x ∷ later) a
        (next_below (front ++ x ∷ later) a x) (chain_below a x.«end» later)
        → IsChainFrom (front ++ x ∷ later) a (find (below_test a end) later)
        (chain_below a end later)
        → IsChainFrom (front ++ x ∷ later) a (cond taken (Some x) (find (below_test a end) later))
        (cond taken (x ∷ chain_below a x.«end» later) (chain_below a end later))
    cases true inside after = (refl, inside)
    cases false inside after = after

of-chain : (a total : ℕ) (front xs : List Scope) → AreNumbered 0 total (front ++ xs)
    → IsChainFrom (front ++ xs) a (find (is_at Subprogram a) xs) (chain_of a xs)
unfolding chain_of
of-chain a total front [] h = tt
of-chain a total front (x ∷ later) h =
    let same : (front ++ x ∷ []) ++ later ≡ front ++ x ∷ later = joined front in
    let N : List Scope → Type 0 = λ ss. AreNumbered 0 total ss in
    let B : List Scope → Type 0 = λ ss. IsChainFrom ss a (find (below_test a x.«end») later)
    (chain_below a x.«end» later) in
    let C : List Scope → Type 0 = λ ss. IsChainFrom ss a (find (is_at Subprogram a) later)
    (chain_of a later) in
    let inside = subst B same (below-chain a x.«end» total (front ++ x ∷ []) later
    (subst N (sym same) h)) in
    let after = subst C same (of-chain a total (front ++ x ∷ []) later (subst N (sym same) h)) in
    let O : Option Scope → Type 0 = λ o. IsChainFrom (front ++ x ∷ later) a o
    (chain_below a x.«end» later) in
    cases (is_at Subprogram a x) (subst O (sym (next-later a total front later x h)) inside) after
  where
    joined : (fs : List Scope) → (fs ++ x ∷ []) ++ later ≡ fs ++ x ∷ later
    joined [] = refl
    joined (f ∷ fs) = ap (λ (xs : List Scope). f ∷ xs) (joined fs)

    cases : (taken : Bool) → IsChainFrom (front ++ x ∷ later) a
        (next_below (front ++ x ∷ later) a x) (chain_below a x.«end» later)
        → IsChainFrom (front ++ x ∷ later) a (find (is_at Subprogram a) later) (chain_of a later)
        → IsChainFrom (front ++ x ∷ later) a (cond taken (Some x) (find (is_at Subprogram a) later))
        (cond taken (x ∷ chain_below a x.«end» later) (chain_of a later))
    cases true inside after = (refl, inside)
    cases false inside after = after

pub chain-is-first : (a : ℕ) (scopes : List Scope) → AreNumbered 0 (length scopes) scopes
    → IsChain scopes a (chain_of a scopes)
chain-is-first a scopes h = of-chain a (length scopes) [] scopes h
