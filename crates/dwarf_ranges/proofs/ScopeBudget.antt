-- The ranges of an entry are nonempty, and the number of items that they are read from is within
-- the budget.
use Rattle.dwarf_bytes.proofs.{Items.ItemLaws.Lists-within, Numbers.Advance.bind_ok}
use Rattle.dwarf_bytes.proofs.Numbers.Moves.{same-ok}
use Rattle.dwarf_bytes.specs.Items.{Lists, Next, items_from, without_offset}
use Rattle.dwarf_bytes.specs.declared.constants.TheConstants.{DW_AT_HIGH_PC, DW_AT_LOW_PC}
use Rattle.dwarf_bytes.specs.declared.{constants.TheConstants.DW_AT_RANGES, fault.Cause.Cause}
use Rattle.dwarf_ranges.proofs.EntryLaws.{AllHold, list_entry-facts, live-holds}
use Rattle.dwarf_ranges.specs.Ranges.{AddsRanges, Covering, IsValidRange, base_after, covers_by}
use Rattle.dwarf_ranges.specs.Ranges.{covers_of, list_at, list_entry_at, pair_at, ranges_in}
use Rattle.dwarf_ranges.specs.declared.{bases.Bases.Bases, range.Range.Range}
use Rattle.dwarf_ranges.specs.declared.range_entries.RangeListEntry.{RangeListEntry}
use Rattle.dwarf_units.specs.Entries.{Die, attribute}
use Rattle.dwarf_units.specs.declared.attributes.AttributeValue.{AttributeValue}
use Rattle.dwarf_walk.specs.Sections.{Sections}
use Rattle.std.proofs.Common.{List, Ok, Option, Result, [], arith, flat_map, length, length-append}
use Rattle.std.proofs.{Common.{ℕ, ◌++◌, ◌+◌, ◌∷◌, ◌≡◌, ◌≤◌}, lemmas.List.Elements.All-append}
use Rattle.std.proofs.lemmas.List.Elements.{All-nil}

pub record Fits (budget : ℕ) (covering : Covering) : Type 0 where
  pub hold : AllHold covering.ranges
  pub counted : length covering.ranges ≤ covering.items
  pub within : covering.items ≤ budget

module _ (budget : ℕ) (sections : Sections) (bases : Bases) where
  lists-hold : (lists : List ℕ) (before : List RangeListEntry) (at : ℕ)
      (entries : List RangeListEntry) (after : ℕ)
      → Lists (list_entry_at budget sections bases lists) before at entries after
      → length before ≤ budget → AllHold (flat_map ranges_in entries)
      × (length (flat_map ranges_in entries) ≤ length entries)
      × (length before + length entries ≤ budget)
  lists-hold lists before at [] after h le = grind arith
  lists-hold lists before at (entry ∷ entries) after h le =
      let here = list_entry-facts budget sections bases (length before)
      (base_after bases.low_pc before) lists at entry h.0 h.1 in
      let size = length-append before (entry ∷ []) in
      let rest = lists-hold lists (before ++ entry ∷ []) h.0 entries after h.2
      (omega (arith, size, here.2)) in
      let both = length-append (ranges_in entry) (flat_map ranges_in entries) in (
        All-append IsValidRange (ranges_in entry) (flat_map ranges_in entries) here.1.0 rest.0,
        omega (arith, both, here.1.1, rest.1),
        omega (arith, size, rest.2),
      )

  list-fits : (place : ℕ) (covering : Covering)
      → list_at budget sections bases place ≡ Ok covering → Fits budget covering
  unfolding list_at
  list-fits place covering h =
      let lists = sections.debug_rnglists in
      let step : List RangeListEntry → ℕ → Result (Next RangeListEntry) Cause =
      list_entry_at budget sections bases lists in
      let all = bind_ok (without_offset (items_from (length lists) step [] place)) _ covering h in
      let read : items_from (length lists) step [] place ≡ Ok all.0 = grind (arith, all.1) in
      let listed = Lists-within _ step [] place all.0.0 all.0.1 read in
      let hold = lists-hold lists [] place all.0.0 all.0.1 listed (omega arith) in
      rw (← same-ok (record { ranges = flat_map ranges_in all.0.0; items = length all.0.0 })
      covering all.2) (record { hold = hold.0; counted = hold.1; within = omega (arith, hold.2) })

  pair-fits : (low high : AttributeValue) (covering : Covering)
      → pair_at budget sections bases low high ≡ Ok covering → Fits budget covering
  pair-fits low high covering h = record {
    hold = λ i d within. grind (arith, live-holds);
    counted = grind arith;
    within = grind arith;
  }

  none-fits : Fits budget (record { ranges = []; items = 0 })
  none-fits = record { hold = All-nil IsValidRange; counted = omega arith; within = omega arith }

  by-fits : (low high ranges : Option AttributeValue) (covering : Covering)
      → covers_by budget sections bases low high ranges ≡ Ok covering → Fits budget covering
  by-fits low high ranges covering h = grind (
    arith,
    λ (place : ℕ). list-fits place covering,
    λ (l h : AttributeValue). pair-fits l h covering,
    none-fits,
  )

  pub covers-fits : (die : Die) (covering : Covering)
      → covers_of budget sections bases die ≡ Ok covering → Fits budget covering
  unfolding covers_of
  covers-fits die covering h = by-fits (attribute die DW_AT_LOW_PC) (attribute die DW_AT_HIGH_PC)
      (attribute die DW_AT_RANGES) covering h

-- The number of items that a call returns is within the budget.
pub budget-left : (budget items : ℕ) (s : Sections) (bases : Bases)
    (low high ranges : Option AttributeValue) (old new : List Range)
    → AddsRanges (Ok items) old new (covers_by budget s bases low high ranges) → items ≤ budget
budget-left budget items s bases low high ranges old new (found, read, grown) =
    (by-fits budget s bases low high ranges (record { ranges = found; items = items }) read).within
