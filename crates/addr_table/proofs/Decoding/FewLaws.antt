-- The rows, scopes and ranges of an object of at most 2^30 bytes are numbered in 32 bits.
use Rattle.std.proofs.Common.{◌≡◌, ◌∙◌, ℕ, zero, suc, min, ◌+◌, ◌-◌, ◌<◌, ◌≤◌, ◌^◌, List, [], ◌∷◌}
use Rattle.std.proofs.Common.{◌++◌}
use Rattle.std.proofs.Common.{length, map, take, drop, get_or, Bool, true, false, cond, sym, ap}
use Rattle.std.proofs.Common.{refl, subst, arith}
use Rattle.std.specs.Prelude.{sum_by, Some, None}
use Rattle.std.proofs.lemmas.Bool.{ltb-false}
use Rattle.dwarf_bytes.specs.declared.fault.LoadFault.{LoadFault}
use Rattle.std.specs.List.Sorted.{IsStrictlyIncreasing}
use Rattle.std.proofs.lemmas.List.{length-append, length-map, length-take, length-drop}
use Rattle.std.proofs.lemmas.List.Sums.{sum_by-cons, length-filter, count_by-le-length}
use Rattle.dwarf_bytes.specs.declared.fault.Cause.{Cause}
use Rattle.dwarf_bytes.specs.declared.fault.Cause.TheVariants as causes
use Rattle.dwarf_bytes.specs.declared.fault.Section.TheVariants as names
use Rattle.dwarf_bytes.specs.Faults.{Item, first_fault}
use Rattle.dwarf_bytes.specs.Elf.{layout, elf_fault, is_too_long, elf_items}
use Rattle.dwarf_bytes.specs.Elf.{header_tests, load_items, section_items}
use Rattle.dwarf_bytes.specs.declared.layout.Layout.{Layout}
use Rattle.dwarf_lines.specs.declared.row.Row.{Row}
use Rattle.dwarf_ranges.specs.declared.range.Range.{Range}
use Rattle.dwarf_entries.specs.Scopes.{Scope, items_limit}
use Rattle.dwarf_entries.specs.TreeLaws.{RiseBelow}
use Rattle.addr_table.specs.declared.starts.Start.{Start}
use Rattle.dwarf_walk.specs.Sections.{Sections}
use Rattle.addr_table.specs.Decoded.{entry_sections}
use Rattle.addr_table.proofs.Decoding.DecodeLaws.{entries-read}
use Rattle.addr_table.specs.Rows.{covers_from, covers_of}
use Rattle.addr_table.specs.Segments.{is_nonempty}
use Rattle.addr_table.specs.Private.Sweep.{Reach, reach_of, row_reaches, reaches_in, key_of}
use Rattle.addr_table.specs.Private.Sweep.{scope_reaches, reaches_of, start_of}
use Rattle.addr_table.specs.Private.Sweep.{AreStarts, AreFew}
use Rattle.std.proofs.lemmas.List.Sorted.{length_permutation}

-- Numbers that rise are at least their indexes.
at-least : (xs : List ℕ) → IsStrictlyIncreasing xs → (k : ℕ) → k < length xs → k ≤ get_or xs k 0
at-least xs rise zero lt = omega arith
at-least xs rise (suc k) lt =
    let before : k ≤ get_or xs k 0 = at-least xs rise k (omega arith) in
    let same : k + 1 ≡ suc k = omega arith in
    let N : ℕ → Type 0 = λ n. get_or xs k 0 < get_or xs n 0 in
    let step : get_or xs k 0 < get_or xs (suc k) 0 = subst N same (rise k (omega arith)) in
    omega arith

-- At most n numbers rise below n.
few-below : (n : ℕ) (xs : List ℕ) → RiseBelow n xs → length xs ≤ n
few-below n [] h = omega arith
few-below n (x ∷ xs) h =
    let last : length xs ≤ get_or (x ∷ xs) (length xs) 0 =
    at-least (x ∷ xs) h.0 (length xs) (omega arith) in
    let below : get_or (x ∷ xs) (length xs) 0 < n = h.1 (length xs) 0 (omega arith) in
    omega arith

covers-few : (n : ℕ) (rows : List Row) → length (covers_from n rows) ≤ length rows
covers-few n [] = omega arith
covers-few n (row ∷ []) = omega arith
covers-few n (row ∷ next ∷ rows) = cases row.«end» (covers-few (suc n) (next ∷ rows))
  where
    cases : (b : Bool) → length (covers_from (suc n) (next ∷ rows)) ≤ length (next ∷ rows)
        → length (cond b (covers_from (suc n) (next ∷ rows))
        (record { row = n; range = record { from = row.address; to = next.address } }
        ∷ covers_from (suc n) (next ∷ rows))) ≤ length (row ∷ next ∷ rows)
    cases true rest = omega (arith, rest)
    cases false rest = omega (arith, rest)

scopes-count : (rows total : ℕ) (scopes : List Scope)
    → length (scope_reaches rows total scopes) ≡ sum_by (λ s. length s.ranges) scopes
scopes-count rows total [] = refl
scopes-count rows total (s ∷ scopes) =
    let joined : length (reaches_in rows total s ++ scope_reaches rows total scopes)
    ≡ length (reaches_in rows total s) + length (scope_reaches rows total scopes) =
    length-append (reaches_in rows total s) (scope_reaches rows total scopes) in
    let one : length (reaches_in rows total s) ≡ length s.ranges =
    length-map s.ranges (λ (r : Range). record {
      key = key_of rows total s.kind s.number;
      range = r;
    }) in
    let more : sum_by (λ s. length s.ranges) (s ∷ scopes)
    ≡ length s.ranges + sum_by (λ s. length s.ranges) scopes =
    sum_by-cons (λ (s : Scope). length s.ranges) s scopes in
    let rest = scopes-count rows total scopes in omega arith

reaches-few : (rows : List Row) (scopes : List Scope)
    → length (reaches_of rows scopes) ≤ length rows + sum_by (λ s. length s.ranges) scopes
unfolding reaches_of
reaches-few rows scopes =
    let all : List Reach = row_reaches rows
    ++ scope_reaches (length rows) (length scopes) scopes in
    let kept : length (reaches_of rows scopes) ≡ _ =
    length-filter (λ (r : Reach). is_nonempty r.range) all in
    let most = count_by-le-length (λ (r : Reach). is_nonempty r.range) all in
    let both : length all ≡ length (row_reaches rows)
    + length (scope_reaches (length rows) (length scopes) scopes) =
    length-append (row_reaches rows) (scope_reaches (length rows) (length scopes) scopes) in
    let covers : length (row_reaches rows) ≡ length (covers_of rows) =
    length-map (covers_of rows) reach_of in
    let few = covers-few 0 rows in
    let ranges = scopes-count (length rows) (length scopes) scopes in omega arith

-- an object that passes the first test of its header has at most 2^30 bytes
pub elf-small : (bytes : List ℕ) → elf_fault bytes ≡ None → length bytes ≤ 2 ^ 30
unfolding elf_items
elf-small bytes none =
    cases (is_too_long bytes) refl (drop 1 (header_tests bytes))
    (load_items bytes ++ section_items bytes) none
  where
    impossible : (fault : LoadFault) → Some fault ≡ None → ⊥
    impossible fault is = cc

    cases : (b : Bool) → is_too_long bytes ≡ b → (tests : List (Bool × Cause))
        → (items : List Item)
        → first_fault names.Elf (record { at = 0; tests = (b, causes.TooMany) ∷ tests } ∷ items)
        ≡ None → length bytes ≤ 2 ^ 30
    cases true long tests items is = absurd (impossible _ is)
    cases false short tests items is = ltb-false _ _ short

-- a section has at most as many bytes as its object
within : (bytes section : List ℕ) (len place : ℕ) → section ≡ take len (drop place bytes)
    → length section ≤ length bytes
within bytes section len place is =
    let same : length section ≡ length (take len (drop place bytes)) = ap length is in
    let taken : length (take len (drop place bytes)) ≡ min len (length (drop place bytes)) =
    length-take len (drop place bytes) in
    let rest : length (drop place bytes) ≡ length bytes - place = length-drop place bytes in
    omega arith

-- the rows of an object are fewer than its bytes
pub rows-few : (bytes line : List ℕ) (found : Layout) (rows : List Row) → length bytes ≤ 2 ^ 30
    → line ≡ take found.debug_line.len (drop found.debug_line.place bytes)
    → length rows ≤ length line → length rows < 2 ^ 32
rows-few bytes line found rows small line_is take_bytes =
    let lines : length line ≤ length bytes =
    within bytes line found.debug_line.len found.debug_line.place line_is in
    omega arith

pub decoded-few : (bytes line : List ℕ) (found : Layout) (s : Sections) (rows : List Row)
    (scopes : List Scope) → length bytes ≤ 2 ^ 30 → found ≡ layout bytes
    → line ≡ take found.debug_line.len (drop found.debug_line.place bytes)
    → s ≡ entry_sections bytes → length rows ≤ length line
    → RiseBelow (length s.debug_info) (map (λ (scope : Scope). scope.offset) scopes)
    → sum_by (λ (scope : Scope). length scope.ranges) scopes ≤ items_limit
    → AreFew rows scopes
decoded-few bytes line found s rows scopes small found_is line_is s_is take_bytes rise limited =
    let lines : length line ≤ length bytes =
    within bytes line found.debug_line.len found.debug_line.place line_is in
    let infos : length s.debug_info ≤ length bytes =
    within bytes s.debug_info found.debug_info.len found.debug_info.place
    (ap (λ (x : Sections). x.debug_info) (s_is ∙ sym (entries-read bytes found found_is))) in
    let mapped : length (map (λ (scope : Scope). scope.offset) scopes) ≡ length scopes =
    length-map scopes (λ (scope : Scope). scope.offset) in
    let offsets = few-below (length s.debug_info) (map (λ (scope : Scope). scope.offset) scopes)
    rise in
    let reaches = reaches-few rows scopes in
    record { segments = omega arith; keys = omega arith; endpoints = omega arith }

-- The sorted starts are as many as the ranges.
pub starts-few : (rows : List Row) (scopes : List Scope) (starts : List Start)
    → AreFew rows scopes → AreStarts (reaches_of rows scopes) starts
    → length starts + length starts < 2 ^ 32
starts-few rows scopes starts few h =
    let s : length starts ≡ length (map start_of (reaches_of rows scopes)) =
    length_permutation (map start_of (reaches_of rows scopes)) starts h.starts_are in
    let m : length (map start_of (reaches_of rows scopes)) ≡ length (reaches_of rows scopes) =
    length-map (reaches_of rows scopes) start_of in
    let bound = few.endpoints in omega arith
