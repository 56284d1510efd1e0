-- The starts of rows and scopes, added range by range.
use Rattle.std.proofs.Common.{◌≡◌, ℕ, zero, suc, ◌+◌, ◌<◌, ◌≤◌, List, [], ◌∷◌, ◌++◌, length, map}
use Rattle.std.proofs.Common.{drop, get_or}
use Rattle.std.proofs.Common.{refl, ap, subst, arith}
use Rattle.std.proofs.lemmas.List.{append_assoc, append-nil, map-append, drop_more, drop_all}
use Rattle.std.proofs.lemmas.List.Elements.{filter-append}
use Rattle.std.proofs.lemmas.List.Sorted.{IsPermutation-trans}
use Rattle.std.proofs.lemmas.List.Sorted.{IsPermutation-append_left}
use Rattle.std.specs.List.Sorted.{IsPermutation}
use Rattle.dwarf_lines.specs.declared.row.Row.{Row}
use Rattle.dwarf_ranges.specs.declared.range.Range.{Range}
use Rattle.dwarf_entries.specs.Scopes.{Scope}
use Rattle.addr_table.specs.declared.starts.Start.{Start}
use Rattle.addr_table.specs.Rows.{cover_of, covers_from}
use Rattle.addr_table.specs.Segments.{is_nonempty}
use Rattle.addr_table.specs.Private.Sweep.{Reach, reaches_in, scope_reaches}
use Rattle.addr_table.specs.Private.Sweep.{nonempty, start_of, AddsStarts}

-- The starts added so far and the starts of the remaining ranges are the starts of all ranges.
pub record IsAdding (left whole : List Reach) (starts starts' : List Start) : Type 0 where
  pub starts_are : IsPermutation (starts ++ map start_of (nonempty whole))
      (starts' ++ map start_of (nonempty left))

-- the remaining ranges may be replaced by an equal list
pub adding-same : (left other whole : List Reach) (s s' : List Start) → left ≡ other
    → IsAdding left whole s s' → IsAdding other whole s s'
adding-same left other whole s s' is h =
    let A : List Reach → Type 0 = λ l. IsAdding l whole s s' in subst A is h

pub filtered : (rs later : List Reach) → nonempty (rs ++ later) ≡ nonempty rs ++ nonempty later
filtered rs later = filter-append (λ (r : Reach). is_nonempty r.range) rs later

one-more : (rs later : List Reach) (xs xs' : List Start)
    → IsPermutation (xs ++ map start_of (nonempty rs)) xs'
    → IsPermutation (xs ++ map start_of (nonempty (rs ++ later)))
    (xs' ++ map start_of (nonempty later))
one-more rs later xs xs' moved =
    rw (
      filtered rs later,
      map-append start_of (nonempty rs) (nonempty later),
      ← append_assoc xs (map start_of (nonempty rs)) (map start_of (nonempty later)),
    )
    (IsPermutation-append_left (map start_of (nonempty later)) (xs ++ map start_of (nonempty rs))
    xs' moved)

pub adding-more : (rs later whole : List Reach) (s s' s'' : List Start)
    → IsAdding (rs ++ later) whole s s' → AddsStarts rs s' s'' → IsAdding later whole s s''
adding-more rs later whole s s' s'' h one =
    record {
      starts_are =
          IsPermutation-trans _ _ _ h.starts_are (one-more rs later s' s'' one.starts_are);
    }

pub adding-end : (left whole : List Reach) (s s' : List Start) → left ≡ []
    → IsAdding left whole s s' → AddsStarts whole s s'
adding-end left whole s s' none h =
    let at = adding-same left [] whole s s' none h in
    let S : List Start → Type 0 = λ l. IsPermutation (s ++ map start_of (nonempty whole)) l in
    record { starts_are = subst S (append-nil s') at.starts_are }

-- ---- rows

covers-step : (m n : ℕ) (rows : List Row) (d : Row) → suc n < length rows
    → covers_from m (drop n rows) ≡ cover_of m (get_or rows n d) (get_or rows (suc n) d)
    (covers_from (suc m) (drop (suc n) rows))
covers-step m n [] d lt = absurd (omega arith)
covers-step m n (x ∷ []) d lt = absurd (omega arith)
covers-step m zero (x ∷ y ∷ rows) d lt = refl
covers-step m (suc n) (x ∷ y ∷ rows) d lt = covers-step m n (y ∷ rows) d (omega arith)

covers-none : (m n : ℕ) (rows : List Row) → length rows ≤ suc n → covers_from m (drop n rows) ≡ []
covers-none m zero [] le = refl
covers-none m (suc n) [] le = refl
covers-none m zero (x ∷ []) le = refl
covers-none m zero (x ∷ y ∷ rows) le = absurd (omega arith)
covers-none m (suc n) (x ∷ rows) le = covers-none m n rows (omega arith)

-- ---- scopes

-- the ranges of scopes, from scope k on
abbrev pub scopes_left : ℕ → ℕ → ℕ → List Scope → List Reach
scopes_left rows total k scopes = scope_reaches rows total (drop k scopes)

pub scope-begins : (rows total k : ℕ) (scopes : List Scope) (d : Scope) → k < length scopes
    → scopes_left rows total k scopes ≡ reaches_in rows total (get_or scopes k d)
    ++ scopes_left rows total (k + 1) scopes
scope-begins rows total k scopes d lt = ap (scope_reaches rows total) (drop_more scopes k d lt)

abbrev pub ranges_left : ℕ → ℕ → List Range → List Reach
ranges_left key j ranges = map (λ r. record { key = key; range = r }) (drop j ranges)

pub range-added : (key j : ℕ) (ranges : List Range) (d : Range) → j < length ranges
    → ranges_left key j ranges ≡ (record { key = key; range = get_or ranges j d } ∷ [])
    ++ ranges_left key (j + 1) ranges
range-added key j ranges d lt = ap (map (λ r. record { key = key; range = r }))
    (drop_more ranges j d lt)

pub ranges-end : (key j : ℕ) (ranges : List Range) → length ranges ≤ j
    → ranges_left key j ranges ≡ []
ranges-end key j ranges le = ap (map (λ r. record { key = key; range = r })) (drop_all j ranges le)

pub scopes-end : (rows total k : ℕ) (scopes : List Scope) → length scopes ≤ k
    → scopes_left rows total k scopes ≡ []
scopes-end rows total k scopes le = ap (scope_reaches rows total) (drop_all k scopes le)
