-- The starts that are built from rows and scopes.
use Rattle.std.proofs.Common.{◌≡◌, ℕ, ◌+◌, ◌<◌, ◌≤◌, List, [], ◌∷◌, ◌++◌, length, map}
use Rattle.std.proofs.Common.{get_or, true, refl, ap, sym, ◌∙◌, subst, arith}
use Rattle.std.specs.List.{All, AllByRecursion}
use Rattle.std.specs.List.Sorted.{IsPermutation, IsNonDecreasingBy}
use Rattle.std.proofs.lemmas.Bool.{ltb-true}
use Rattle.std.proofs.lemmas.List.{map-append}
use Rattle.std.proofs.lemmas.List.Elements.{filter-append, filter_passes}
use Rattle.std.proofs.lemmas.List.Elements.{All-from_recursion, recursion_from_All, All-filter}
use Rattle.std.proofs.lemmas.List.Sorted.{All-permutation, IsPermutation-trans}
use Rattle.std.proofs.lemmas.List.Sorted.{IsPermutation-append}
use Rattle.dwarf_lines.specs.declared.row.Row.{Row}
use Rattle.dwarf_ranges.specs.declared.range.Range.{Range}
use Rattle.dwarf_walk.specs.declared.scope_kind.ScopeKind.{ScopeKind}
use Rattle.dwarf_walk.specs.declared.scope_kind.ScopeKind.TheVariants.{Subprogram, Inlined}
use Rattle.dwarf_entries.specs.Scopes.{Scope}
use Rattle.addr_table.specs.declared.starts.Start.{Start}
use Rattle.addr_table.specs.Rows.{Cover, covers_of}
use Rattle.dwarf_entries.specs.Order.{AreNumbered}
use Rattle.addr_table.specs.Segments.{is_nonempty}
use Rattle.addr_table.specs.Private.Sweep.{Reach, key_of, reach_of, row_reaches, reaches_in}
use Rattle.addr_table.specs.Private.Sweep.{scope_reaches, reaches_of, nonempty, start_of}
use Rattle.addr_table.specs.Private.Sweep.{AddsStarts, AreStarts, AreActive}
use Rattle.addr_table.specs.Private.Active.{ActiveSet}
use Rattle.addr_table.specs.Private.Merged.{merged}
use Rattle.addr_table.proofs.ActiveSet.ActiveLaws.{zeros_of, zeros}
use Rattle.addr_table.specs.Private.RowOrder.{covering_from, row_start}
use Rattle.addr_table.proofs.Endpoints.MergeLaws.{merged-permutation, merged-rises}
use Rattle.addr_table.proofs.Endpoints.RowStartLaws.{starts-are}
use Rattle.addr_table.proofs.Scanning.Lists.{each-append}
use Rattle.addr_table.proofs.ActiveSet.FirstLaws.{RiseBy}
use Rattle.addr_table.proofs.Sweeping.KeyLaws.{covers-rise}
use Rattle.addr_table.proofs.Sweeping.ScopeKeys.{NumbersBelow, numbers-below}

-- the starts of ranges: added to an empty list, and sorted
pub record AreSorted (reaches : List Reach) (starts : List Start) : Type 0 where
  pub starts_are : IsPermutation (map start_of (nonempty reaches)) starts
  pub rise : IsNonDecreasingBy (λ (s : Start). s.at) starts

pub are-sorted : (reaches : List Reach) (s0 s1 s2 : List Start) → s0 ≡ []
    → AddsStarts reaches s0 s1 → IsPermutation s1 s2
    → IsNonDecreasingBy (λ (s : Start). s.at) s2 → AreSorted reaches s2
are-sorted reaches s0 s1 s2 none a moved rise = record {
  starts_are = IsPermutation-trans _ _ _
      (subst (λ (l : List Start). IsPermutation (l ++ map start_of (nonempty reaches)) s1) none
      a.starts_are)
      moved;
  rise = rise;
}

pub rows-sorted : (rows : List Row) (starts : List Start)
    → IsPermutation (map (row_start rows) (covering_from 0 rows)) starts
    → IsNonDecreasingBy (λ (s : Start). s.at) starts → AreSorted (row_reaches rows) starts
rows-sorted rows starts s rise = record {
  starts_are = subst (λ ss. IsPermutation ss starts) (sym (starts-are rows 0 rows refl)) s;
  rise = rise;
}

both-merged : (us vs : List Reach) (xs ys : List Start)
    → IsPermutation (map start_of (nonempty us)) xs → IsPermutation (map start_of (nonempty vs)) ys
    → IsPermutation (map start_of (nonempty (us ++ vs))) (merged xs ys)
both-merged us vs xs ys a b =
    rw (
      filter-append (λ (r : Reach). is_nonempty r.range) us vs,
      map-append start_of (nonempty us) (nonempty vs),
    )
    (IsPermutation-trans _ _ _ (IsPermutation-append _ _ _ _ a b) (merged-permutation xs ys))

pub starts-merged : (rows : List Row) (scopes : List Scope) (o s : List Start)
    → AreSorted (row_reaches rows) o
    → AreSorted (scope_reaches (length rows) (length scopes) scopes) s
    → AreStarts (reaches_of rows scopes) (merged o s)
unfolding reaches_of
starts-merged rows scopes o s a b =
    let all : List Reach = row_reaches rows ++ scope_reaches (length rows) (length scopes) scopes in
    let are = both-merged (row_reaches rows) (scope_reaches (length rows) (length scopes) scopes)
    o s a.starts_are b.starts_are in
    let F : Start → Type 0 = λ x. x.at < x.to in
    record {
      full = All-permutation F (map start_of (nonempty all)) (merged o s) are
          (All-from_recursion F (map start_of (nonempty all))
          (full-mapped (nonempty all)
          (recursion_from_All (λ (r : Reach). is_nonempty r.range ≡ true) (nonempty all)
          (filter_passes (λ (r : Reach). is_nonempty r.range) all))));
      starts_are = are;
      rise = merged-rises o s a.rise b.rise;
    }
  where
    full-mapped : (rs : List Reach) → AllByRecursion (λ (r : Reach). is_nonempty r.range ≡ true) rs
        → AllByRecursion (λ (x : Start). x.at < x.to) (map start_of rs)
    full-mapped [] h = tt
    full-mapped (r ∷ rs) h = (ltb-true r.range.from r.range.to h.0, full-mapped rs h.1)

-- no range is active before the first endpoint
pub none-active : (keys : ℕ) (active : ActiveSet)
    → active ≡ record { counts = zeros_of keys; calls = 0 }
    → AreActive [] active × (active.calls ≡ 0)
none-active keys active is = (
  λ k. ap (λ (s : ActiveSet). get_or s.counts k 0) is ∙ zeros keys k,
  ap (λ (s : ActiveSet). s.calls) is,
)

-- ---- their keys

abbrev pub KeysBelow : ℕ → List Reach → Type 0
KeysBelow n rs = AllByRecursion (λ (r : Reach). r.key < n) rs

rows-below : (n low total : ℕ) (cs : List Cover) → RiseBy (λ (c : Cover). c.row) low total cs
    → total ≤ n → KeysBelow n (map reach_of cs)
rows-below n low total [] h le = tt
rows-below n low total (c ∷ cs) h le = (
  let a : c.row < total = h.1 in
      omega arith,
  rows-below n (c.row + 1) total cs h.2 le,
)

one-below : (n key : ℕ) (rs : List Range) → key < n
    → KeysBelow n (map (λ r. record { key = key; range = r }) rs)
one-below n key [] lt = tt
one-below n key (r ∷ rs) lt = (lt, one-below n key rs lt)

key-below : (rows total number : ℕ) (kind : ScopeKind) → number < total
    → key_of rows total kind number < rows + total + total
key-below rows total number Subprogram lt = omega arith
key-below rows total number Inlined lt = omega arith

scopes-below : (rows total : ℕ) (scopes : List Scope) → NumbersBelow total scopes
    → KeysBelow (rows + total + total) (scope_reaches rows total scopes)
scopes-below rows total [] h = tt
scopes-below rows total (s ∷ scopes) h =
    each-append (λ (r : Reach). r.key < rows + total + total) (reaches_in rows total s)
    (scope_reaches rows total scopes)
    (one-below (rows + total + total) (key_of rows total s.kind s.number) s.ranges
    (key-below rows total s.number s.kind h.0))
    (scopes-below rows total scopes h.1)

pub keys-below : (rows : List Row) (scopes : List Scope) → AreNumbered 0 (length scopes) scopes
    → All (λ (r : Reach). r.key < length rows + length scopes + length scopes)
    (reaches_of rows scopes)
unfolding reaches_of
keys-below rows scopes numbered =
    All-filter (λ (r : Reach). is_nonempty r.range)
    (λ (r : Reach). r.key < length rows + length scopes + length scopes)
    (row_reaches rows ++ scope_reaches (length rows) (length scopes) scopes)
    (All-from_recursion (λ (r : Reach). r.key < length rows + length scopes + length scopes)
    (row_reaches rows ++ scope_reaches (length rows) (length scopes) scopes)
    (each-append (λ (r : Reach). r.key < length rows + length scopes + length scopes)
    (row_reaches rows)
    (scope_reaches (length rows) (length scopes) scopes)
    (rows-below (length rows + length scopes + length scopes) 0 (length rows) (covers_of rows)
    (covers-rise 0 (length rows) rows (omega arith)) (omega arith))
    (scopes-below (length rows) (length scopes) scopes
    (numbers-below 0 (length scopes) scopes numbered))))

mapped-all : (P : ℕ → Type 0) (f : Reach → Start) (rs : List Reach)
    → ((r : Reach) → P r.key → P (f r).key)
    → AllByRecursion (λ (r : Reach). P r.key) rs → AllByRecursion (λ (e : Start). P e.key) (map f
    rs)
mapped-all P f [] g h = tt
mapped-all P f (r ∷ rs) g h = (g r h.0, mapped-all P f rs g h.1)

pub start-keys : (rows : List Row) (scopes : List Scope) (starts : List Start) (n : ℕ)
    → AreNumbered 0 (length scopes) scopes
    → AreStarts (reaches_of rows scopes) starts
    → n ≡ length rows + length scopes + length scopes
    → All (λ (s : Start). s.key < n) starts
start-keys rows scopes starts n numbered h is =
    let S : Start → Type 0 = λ s. s.key < n in
    let N : ℕ → Type 0 = λ k. k < n in
    let M : ℕ → Type 0 = λ m. AllByRecursion (λ (r : Reach). r.key < m) (reaches_of rows scopes) in
    let keys : AllByRecursion (λ (r : Reach). r.key < n) (reaches_of rows scopes) =
    subst M (sym is)
    (recursion_from_All (λ (r : Reach). r.key < length rows + length scopes + length scopes)
    (reaches_of rows scopes)
    (keys-below rows scopes numbered)) in
    All-permutation S (map start_of (reaches_of rows scopes)) starts h.starts_are
    (All-from_recursion S (map start_of (reaches_of rows scopes))
    (mapped-all N start_of (reaches_of rows scopes) (λ r k. k) keys))
