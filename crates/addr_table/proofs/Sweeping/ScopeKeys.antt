-- The keys of scopes in the active set.
use Rattle.std.proofs.Common.{◌≡◌, ℕ, suc, ◌+◌, ◌<◌, ◌≤◌, List, [], ◌∷◌, length, Bool, true, false}
use Rattle.std.proofs.Common.{◌&&◌, ◌||◌, refl, ap, ◌∙◌, arith}
use Rattle.std.specs.Prelude.{◌==◌}
use Rattle.std.specs.List.{AllByRecursion, list_any}
use Rattle.std.proofs.lemmas.Bool.Decides.{nat_tests}
use Rattle.dwarf_lines.specs.declared.row.Row.{Row}
use Rattle.dwarf_walk.specs.declared.scope_kind.ScopeKind.{ScopeKind}
use Rattle.dwarf_walk.specs.declared.scope_kind.ScopeKind.TheVariants.{Subprogram, Inlined}
use Rattle.dwarf_entries.specs.Scopes.{Scope}
use Rattle.addr_table.specs.Rows.{Cover, holds, covers_of}
use Rattle.dwarf_entries.specs.Order.{AreNumbered}
use Rattle.addr_table.specs.Chains.{is_kind, is_at}
use Rattle.addr_table.specs.Private.Bits.{is_filled}
use Rattle.addr_table.specs.Private.Sweep.{key_of, reaches_in, scope_reaches, reaches_of}
use Rattle.addr_table.specs.Private.Sweep.{IsActiveAt}
use Rattle.addr_table.proofs.Sweeping.KeyLaws.{any-map, any-flat, any-both, covers-rise, has_key}
use Rattle.addr_table.proofs.Sweeping.KeyLaws.{has_key-parts}
use Rattle.addr_table.proofs.Sweeping.KeyLaws.{rows-none}

-- ---- the keys of scopes

same-key : (x y n m : ℕ) → (x ≡ y → n ≡ m) → (n ≡ m → x ≡ y) → (x == y) ≡ (n == m)
same-key x y n m f g = grind (arith, nat_tests)

never-key : (x y : ℕ) (b : Bool) → (x ≡ y → ⊥) → (x == y) ≡ (b && false)
never-key x y true h = grind (arith, nat_tests)
never-key x y false h = grind (arith, nat_tests)

-- two scopes have the same key if they have the same kind and number
scope-key : (rows total n : ℕ) (kind : ScopeKind) (s : Scope) → s.number < total → n < total
    → (key_of rows total s.kind s.number == key_of rows total kind n)
    ≡ ((s.number == n) && is_kind kind s.kind)
scope-key rows total n kind s lt below = by_kind s.kind kind
  where
    and-true : (b : Bool) → b ≡ (b && true)
    and-true true = refl
    and-true false = refl

    by_kind : (own asked : ScopeKind)
        → (key_of rows total own s.number == key_of rows total asked n)
        ≡ ((s.number == n) && is_kind asked own)
    by_kind Subprogram Subprogram =
        same-key (rows + s.number) (rows + n) s.number n (λ e. omega arith) (λ e. omega arith)
        ∙ and-true (s.number == n)
    by_kind Subprogram Inlined = never-key (rows + s.number) (rows + total + n) (s.number == n)
        (λ e. absurd (omega arith))
    by_kind Inlined Subprogram = never-key (rows + total + s.number) (rows + n) (s.number == n)
        (λ e. absurd (omega arith))
    by_kind Inlined Inlined =
        same-key (rows + total + s.number) (rows + total + n) s.number n (λ e. omega arith)
        (λ e. omega arith) ∙ and-true (s.number == n)

and-assoc : (x y z : Bool) → ((x && y) && z) ≡ (x && (y && z))
and-assoc true y z = refl
and-assoc false y z = refl

scope-one : (rows total a n : ℕ) (kind : ScopeKind) (s : Scope) → s.number < total → n < total
    → list_any (has_key (key_of rows total kind n) a) (reaches_in rows total s)
    ≡ ((s.number == n) && is_at kind a s)
scope-one rows total a n kind s lt below =
    any-map (has_key (key_of rows total kind n) a)
    (λ r. record { key = key_of rows total s.kind s.number; range = r }) s.ranges
    ∙ any-both (key_of rows total s.kind s.number == key_of rows total kind n) (holds a) s.ranges
    ∙ ap (λ b. b && list_any (holds a) s.ranges) (scope-key rows total n kind s lt below)
    ∙ and-assoc (s.number == n) (is_kind kind s.kind) (list_any (holds a) s.ranges)

-- each number is below the total
abbrev pub NumbersBelow : ℕ → List Scope → Type 0
NumbersBelow total scopes = AllByRecursion (λ s. s.number < total) scopes

pub numbers-below : (m total : ℕ) (scopes : List Scope) → AreNumbered m total scopes
    → NumbersBelow total scopes
numbers-below m total [] h = tt
numbers-below m total (s ∷ later) h =
    let a : s.number ≡ m = h.0 in let b : m < s.«end» = h.1 in let c : s.«end» ≤ total = h.2 in
    (omega arith, numbers-below (suc m) total later h.3)

scopes-at : (rows total a n : ℕ) (kind : ScopeKind) (scopes : List Scope)
    → NumbersBelow total scopes → n < total
    → list_any (has_key (key_of rows total kind n) a) (scope_reaches rows total scopes)
    ≡ list_any (λ s. (s.number == n) && is_at kind a s)
    scopes
scopes-at rows total a n kind scopes h below =
    any-flat (has_key (key_of rows total kind n) a) (reaches_in rows total) scopes ∙ each scopes h
  where
    each : (ss : List Scope) → NumbersBelow total ss
        → list_any (λ s. list_any (has_key (key_of rows total kind n) a) (reaches_in rows total s))
        ss ≡ list_any
        (λ s. (s.number == n) && is_at kind a s) ss
    each [] h = refl
    each (s ∷ ss) h = rw (scope-one rows total a n kind s h.0 below, each ss h.1) refl

key-above : (rows total n : ℕ) (kind : ScopeKind) → rows ≤ key_of rows total kind n
key-above rows total n Subprogram = omega arith
key-above rows total n Inlined = omega arith

-- the active scopes
pub kind-active : (rows : List Row) (scopes : List Scope) (a : ℕ) (counts : List ℕ)
    (kind : ScopeKind)
    → NumbersBelow (length scopes) scopes
    → ((k : ℕ) → is_filled counts k ≡ list_any (has_key k a) (reaches_of rows scopes))
    → (n : ℕ) → n < length scopes
    → is_filled counts (key_of (length rows) (length scopes) kind n)
    ≡ list_any (λ s. (s.number == n) && is_at kind a s) scopes
kind-active rows scopes a counts kind numbers h n lt =
    let k : ℕ = key_of (length rows) (length scopes) kind n in
    h (key_of (length rows) (length scopes) kind n)
    ∙ has_key-parts (key_of (length rows) (length scopes) kind n) a rows scopes
    ∙ ap (λ b. b || list_any (has_key (key_of (length rows) (length scopes) kind n) a)
    (scope_reaches (length rows) (length scopes) scopes))
    (any-map (has_key (key_of (length rows) (length scopes) kind n) a)
    (λ (c : Cover). record { key = c.row; range = c.range })
    (covers_of rows)
    ∙ rows-none (key_of (length rows) (length scopes) kind n) a 0 (length rows) (covers_of rows)
    (covers-rise 0 (length rows) rows (omega arith))
    (key-above (length rows) (length scopes) n kind))
    ∙ scopes-at (length rows) (length scopes) a n kind scopes numbers lt

pub scopes-active : (rows : List Row) (scopes : List Scope) (a : ℕ) (counts : List ℕ)
    → AreNumbered 0 (length scopes) scopes
    → ((k : ℕ) → is_filled counts k ≡ list_any (has_key k a) (reaches_of rows scopes))
    → IsActiveAt (length rows) scopes a counts
scopes-active rows scopes a counts numbered h =
    let numbers = numbers-below 0 (length scopes) scopes numbered in
    record {
      subprograms = kind-active rows scopes a counts Subprogram numbers h;
      inlined =
          kind-active rows scopes a counts Inlined numbers h;
    }
