-- The rows and scopes that contain an address, by the keys of the active set.
use Rattle.std.proofs.Common.{◌≡◌, ℕ, suc, ◌+◌, ◌<◌, ◌≤◌, List, [], ◌∷◌, ◌++◌, length, map, Bool}
use Rattle.std.proofs.Common.{true, false, cond, ◌&&◌, ◌||◌, refl, ap, sym, ◌∙◌, subst, arith}
use Rattle.std.specs.Prelude.{◌==◌, Option, filter, flat_map}
use Rattle.std.specs.List.{list_any}
use Rattle.std.proofs.lemmas.Bool.Decides.{nat_tests}
use Rattle.std.proofs.lemmas.List.Folds.{list_any-append}
use Rattle.dwarf_lines.specs.declared.row.Row.{Row}
use Rattle.dwarf_ranges.specs.declared.range.Range.{Range}
use Rattle.dwarf_walk.specs.declared.scope_kind.ScopeKind.{ScopeKind}
use Rattle.dwarf_walk.specs.declared.scope_kind.ScopeKind.TheVariants.{Subprogram, Inlined}
use Rattle.dwarf_entries.specs.Scopes.{Scope}
use Rattle.addr_table.specs.Rows.{Cover, holds, covers_from, covers_of, row_at}
use Rattle.addr_table.specs.Segments.{is_nonempty}
use Rattle.addr_table.specs.Private.Bits.{is_filled, IsFirstIn}
use Rattle.addr_table.specs.Private.Sweep.{Reach, key_of, row_reaches, reaches_in, scope_reaches}
use Rattle.addr_table.specs.Private.Sweep.{reaches_of, AreRowsActiveAt}
use Rattle.addr_table.proofs.Sweeping.Constant.{holds-empty}
use Rattle.addr_table.proofs.ActiveSet.FirstLaws.{RiseBy, passes-at, first-by, first-unique}
use Rattle.addr_table.proofs.ActiveSet.FirstLaws.{first-same}

-- ---- tests of lists that are built from others

pub any-map : {X Y : Type 0} (p : Y → Bool) (f : X → Y) (xs : List X)
    → list_any p (map f xs) ≡ list_any (λ x. p (f x)) xs
any-map p f [] = refl
any-map p f (x ∷ xs) = ap (λ b. p (f x) || b) (any-map p f xs)

pub any-flat : {X Y : Type 0} (p : Y → Bool) (f : X → List Y) (xs : List X)
    → list_any p (flat_map f xs) ≡ list_any (λ x. list_any p (f x)) xs
any-flat p f [] = refl
any-flat p f (x ∷ xs) = list_any-append p (f x) (flat_map f xs) ∙ ap (λ b. list_any p (f x) || b)
    (any-flat p f xs)

pub any-filter : {X : Type 0} (p q : X → Bool) (xs : List X) → ((x : X) → q x ≡ false → p x ≡ false)
    → list_any p (filter q xs) ≡ list_any p xs
any-filter p q [] h = refl
any-filter p q (x ∷ xs) h = cases (q x) refl (any-filter p q xs h)
  where
    cases : (b : Bool) → q x ≡ b → list_any p (filter q xs) ≡ list_any p xs
        → list_any p (cond b (x ∷ filter q xs) (filter q xs)) ≡ (p x || list_any p xs)
    cases true is rest = ap (λ b. p x || b) rest
    cases false is rest = rest ∙ sym (rw (h x is) refl)

pub any-both : {X : Type 0} (b : Bool) (p : X → Bool) (xs : List X) → list_any (λ x. b && p x) xs
    ≡ (b && list_any p xs)
any-both true p xs = refl
any-both false p [] = refl
any-both false p (x ∷ xs) = any-both false p xs

-- ---- the keys of rows

pub covers-rise : (n total : ℕ) (rows : List Row) → n + length rows ≤ total
    → RiseBy (λ (c : Cover). c.row) n total (covers_from n rows)
covers-rise n total [] le = tt
covers-rise n total (row ∷ []) le = tt
covers-rise n total (row ∷ next ∷ rows) le =
    cases row.«end» (covers-rise (suc n) total (next ∷ rows) (omega arith))
  where
    later : (cs : List Cover) → RiseBy (λ (c : Cover). c.row) (suc n) total cs
        → RiseBy (λ (c : Cover). c.row) n total cs
    later [] h = tt
    later (c ∷ cs) h = (let u : suc n ≤ c.row = h.0 in omega arith, h.1, h.2)

    cases : (b : Bool) → RiseBy (λ (c : Cover). c.row) (suc n) total
        (covers_from (suc n) (next ∷ rows))
        → RiseBy (λ (c : Cover). c.row) n total
        (cond b (covers_from (suc n) (next ∷ rows))
        (record { row = n; range = record { from = row.address; to = next.address } }
        ∷ covers_from (suc n) (next ∷ rows)))
    cases true h = later (covers_from (suc n) (next ∷ rows)) h
    cases false h =
        let R : ℕ → Type 0 = λ m. RiseBy (λ (c : Cover). c.row) m total
        (covers_from (suc n) (next ∷ rows)) in
        let e : suc n ≡ n + 1 = omega arith in (omega arith, omega arith, subst R e h)

-- whether a range has a key and contains an address
abbrev pub has_key : ℕ → ℕ → Reach → Bool
has_key k a r = (r.key == k) && holds a r.range

empty-without-key : (k a : ℕ) (r : Reach) → is_nonempty r.range ≡ false → has_key k a r ≡ false
empty-without-key k a r h = let none : holds a r.range ≡ false = holds-empty a r.range h in
    rw none (never (r.key == k))
  where
    never : (b : Bool) → (b && false) ≡ false
    never true = refl
    never false = refl

pub has_key-parts : (k a : ℕ) (rows : List Row) (scopes : List Scope)
    → list_any (has_key k a)
    (reaches_of rows scopes) ≡ (list_any (has_key k a) (row_reaches rows) || list_any (has_key k a)
    (scope_reaches (length rows) (length scopes) scopes))
unfolding reaches_of
has_key-parts k a rows scopes =
    any-filter (has_key k a) (λ r. is_nonempty r.range)
    (row_reaches rows ++ scope_reaches (length rows) (length scopes) scopes)
    (empty-without-key k a)
    ∙ list_any-append (has_key k a) (row_reaches rows)
    (scope_reaches (length rows) (length scopes) scopes)

other-keys : (a k : ℕ) (b : Bool) → (a ≡ k → ⊥) → ((a == k) && b) ≡ false
other-keys a k b h = grind (arith, nat_tests)

-- the keys of rows are below the number of rows; the keys of scopes are not
pub rows-none : (k a n total : ℕ) (covers : List Cover)
    → RiseBy (λ (c : Cover). c.row) n total covers
    → total ≤ k
    → list_any (λ c. (c.row == k) && holds a c.range) covers ≡ false
rows-none k a n total [] h le = refl
rows-none k a n total (c ∷ cs) h le =
    let lt : c.row < total = h.1 in
    rw (other-keys c.row k (holds a c.range) (λ e. absurd (omega arith)))
    (rows-none k a (c.row + 1) total cs h.2 le)

one-none : (k a rows total : ℕ) (s : Scope) → k < rows
    → list_any (has_key k a) (reaches_in rows total s) ≡ false
one-none k a rows total s lt =
    any-map (has_key k a) (λ r. record { key = key_of rows total s.kind s.number; range = r })
    s.ranges ∙ each s.ranges
  where
    far : (kind : ScopeKind) → key_of rows total kind s.number ≡ k → ⊥
    far Subprogram e = absurd (omega arith)
    far Inlined e = absurd (omega arith)

    each : (rs : List Range) → list_any (λ r. (key_of rows total s.kind s.number == k) && holds a r)
        rs ≡ false
    each [] = refl
    each (r ∷ rs) = rw (other-keys (key_of rows total s.kind s.number) k (holds a r) (far s.kind))
        (each rs)

scopes-none : (k a rows total : ℕ) (scopes : List Scope) → k < rows
    → list_any (has_key k a) (scope_reaches rows total scopes) ≡ false
scopes-none k a rows total scopes lt = any-flat (has_key k a) (reaches_in rows total) scopes
    ∙ each scopes
  where
    each : (ss : List Scope) → list_any (λ s. list_any (has_key k a) (reaches_in rows total s)) ss
        ≡ false
    each [] = refl
    each (s ∷ ss) = rw (one-none k a rows total s lt) (each ss)

or_false : (b : Bool) → (b || false) ≡ b
or_false true = refl
or_false false = refl

-- the active rows
pub rows-active : (rows : List Row) (scopes : List Scope) (a : ℕ) (counts : List ℕ)
    → ((k : ℕ) → is_filled counts k ≡ list_any (has_key k a) (reaches_of rows scopes))
    → AreRowsActiveAt rows a counts
rows-active rows scopes a counts h = record {
  active = λ n lt.
      h n ∙ has_key-parts n a rows scopes
      ∙ ap (λ b. list_any (has_key n a) (row_reaches rows) || b)
      (scopes-none n a (length rows) (length scopes) scopes lt)
      ∙ or_false (list_any (has_key n a) (row_reaches rows))
      ∙ any-map (has_key n a) (λ (c : Cover). record { key = c.row; range = c.range })
      (covers_of rows);
}

-- the first active row is the row of the address
pub row-first : (rows : List Row) (a : ℕ) (counts : List ℕ) (r : Option ℕ)
    → AreRowsActiveAt rows a counts
    → IsFirstIn (is_filled counts) 0 (length rows) r → r ≡ row_at rows a
unfolding row_at
row-first rows a counts r h first =
    first-unique (passes-at (λ (c : Cover). c.row) (λ c. holds a c.range) (covers_of rows)) 0
    (length rows) r _
    (first-same (is_filled counts) _ 0 (length rows) r (λ k low high. h.active k high) first)
    (first-by (λ (c : Cover). c.row) (λ c. holds a c.range) 0 (length rows) (covers_of rows)
    (covers-rise 0 (length rows) rows (omega arith)))
