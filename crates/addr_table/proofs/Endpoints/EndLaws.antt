-- The endpoints of ranges, by their sorted starts.
use Rattle.std.proofs.Common.{ℕ, List, [], ◌∷◌, map}
use Rattle.std.proofs.Common.{sym, subst}
use Rattle.std.specs.List.{AllByRecursion, All}
use Rattle.std.proofs.lemmas.List.Elements.{All-from_recursion, recursion_from_All}
use Rattle.std.proofs.lemmas.List.Sorted.{All-permutation, IsPermutation-sym}
use Rattle.dwarf_lines.specs.declared.row.Row.{Row}
use Rattle.dwarf_ranges.specs.declared.range.Range.{Range}
use Rattle.dwarf_entries.specs.Scopes.{Scope}
use Rattle.addr_table.specs.declared.starts.Start.{Start}
use Rattle.addr_table.specs.Segments.{ranges_of, ends_of}
use Rattle.addr_table.specs.Private.Sweep.{Reach, reaches_of, start_of, AreStarts}
use Rattle.addr_table.proofs.Searching.SegmentListLaws.{IsAmong}
use Rattle.addr_table.proofs.Endpoints.RangeEnds.{ends-all, ends-among}
use Rattle.addr_table.proofs.Endpoints.RangeEnds.{reaches-ranges}

-- ---- from sorted starts to the endpoints of ranges

ranged : (P : Range → Type 0) (rs : List Reach) → AllByRecursion P (map (λ (r : Reach). r.range) rs)
    → AllByRecursion (λ r. P r.range) rs
ranged P [] h = tt
ranged P (r ∷ rs) h = (h.0, ranged P rs h.1)

unranged : (P : Range → Type 0) (rs : List Reach) → AllByRecursion (λ r. P r.range) rs
    → AllByRecursion P (map (λ (r : Reach). r.range) rs)
unranged P [] h = tt
unranged P (r ∷ rs) h = (h.0, unranged P rs h.1)

mapped : {X Y : Type 0} (P : Y → Type 0) (f : X → Y) (xs : List X)
    → AllByRecursion (λ x. P (f x)) xs → AllByRecursion P (map f xs)
mapped P f [] h = tt
mapped P f (x ∷ xs) h = (h.0, mapped P f xs h.1)

unmapped : {X Y : Type 0} (P : Y → Type 0) (f : X → Y) (xs : List X) → AllByRecursion P (map f xs)
    → AllByRecursion (λ x. P (f x)) xs
unmapped P f [] h = tt
unmapped P f (x ∷ xs) h = (h.0, unmapped P f xs h.1)

-- what holds for the endpoints of all sorted ranges holds for each endpoint of a range
pub all-ends : (P : ℕ → Type 0) (rows : List Row) (scopes : List Scope) (starts : List Start)
    → AreStarts (reaches_of rows scopes) starts → All (λ (s : Start). P s.at × P s.to) starts
    → AllByRecursion P (ends_of (ranges_of rows scopes))
all-ends P rows scopes starts h all =
    let S : Start → Type 0 = λ s. P s.at × P s.to in
    let R : Range → Type 0 = λ r. P r.from × P r.to in
    let L : List Range → Type 0 = λ rs. AllByRecursion R rs in
    let ss : AllByRecursion S (map start_of (reaches_of rows scopes)) =
    recursion_from_All S (map start_of (reaches_of rows scopes))
    (All-permutation S starts (map start_of (reaches_of rows scopes))
    (IsPermutation-sym (map start_of (reaches_of rows scopes)) starts h.starts_are) all) in
    ends-all P (ranges_of rows scopes) (subst L (reaches-ranges rows scopes)
    (unranged R (reaches_of rows scopes) (unmapped S start_of (reaches_of rows scopes) ss)))

-- the endpoints of each sorted range are endpoints of a range
pub each-start : (rows : List Row) (scopes : List Scope) (starts : List Start)
    → AreStarts (reaches_of rows scopes) starts
    → All (λ (s : Start). IsAmong s.at (ends_of (ranges_of rows scopes))
    × IsAmong s.to (ends_of (ranges_of rows scopes))) starts
each-start rows scopes starts h =
    let A : ℕ → Type 0 = λ n. IsAmong n (ends_of (ranges_of rows scopes)) in
    let S : Start → Type 0 = λ s. A s.at × A s.to in
    let R : Range → Type 0 = λ r. A r.from × A r.to in
    let L : List Range → Type 0 = λ rs. AllByRecursion R rs in
    All-permutation S (map start_of (reaches_of rows scopes)) starts h.starts_are
    (All-from_recursion S (map start_of (reaches_of rows scopes))
    (mapped S start_of (reaches_of rows scopes)
    (ranged R (reaches_of rows scopes) (subst L (sym (reaches-ranges rows scopes))
    (ends-among (ranges_of rows scopes))))))
