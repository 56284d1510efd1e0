-- The address ranges of an entry (DWARF 5, 2.17 and 7.25).
use Rattle.dwarf_bytes.specs.{Bind.◌>>=◌, Items.{End, Item, Next, items_from, reading, refuse_if}}
use Rattle.dwarf_bytes.specs.{Items.without_offset, Numbers.{u64_at, u8_at, uleb_at}}
use Rattle.dwarf_bytes.specs.{Refusals.Fails, declared.constants.TheConstants.DW_AT_HIGH_PC}
use Rattle.dwarf_bytes.specs.declared.constants.TheConstants.{DW_AT_LOW_PC, DW_AT_RANGES}
use Rattle.dwarf_bytes.specs.declared.{constants.TheConstants.DW_FORM_RNGLISTX, fault.Cause.Cause}
use Rattle.dwarf_bytes.specs.declared.tables.TableKind.TheVariants.{Addr, RngLists}
use Rattle.dwarf_ranges.specs.{Bases.{address_of, item_at}, declared.bases.Bases.Bases}
use Rattle.dwarf_ranges.specs.declared.{range.Range.Range, range_entries.Operand.Operand}
use Rattle.dwarf_ranges.specs.declared.range_entries.Operand.TheVariants.{Address, Index, Number}
use Rattle.dwarf_ranges.specs.declared.range_entries.Operands.{Operands}
use Rattle.dwarf_ranges.specs.declared.range_entries.RangeListEntry.{RangeListEntry}
use Rattle.dwarf_ranges.specs.declared.range_entries.RangeListEntry.TheVariants.{Base, Covers}
use Rattle.dwarf_units.specs.{Attributes.{address_forms, is_among}, Entries.{Die, attribute}}
use Rattle.dwarf_units.specs.declared.attributes.AttributeValue.{AttributeValue}
use Rattle.dwarf_walk.specs.Sections.{Sections}
use Rattle.std.specs.Prelude.{Err, List, None, Ok, Option, Result, Some, [], flat_map}
use Rattle.std.specs.Prelude.{if◌then◌else◌, length, nat_le, nat_lt, ok_or, option_to_list}
use Rattle.std.specs.Prelude.{slice_get, ℕ, ◌++◌, ◌+◌, ◌-◌, ◌<◌, ◌==◌, ◌^◌, ◌||◌, ◌∷◌, ◌≡◌}
use Rattle.dwarf_bytes.specs.declared.fault.Cause.TheVariants as causes

-- A range is nonempty, and its addresses have 64 bits.
abbrev pub IsValidRange : Range → Type 0
IsValidRange range = (range.from < range.to) × (range.to < 2 ^ 64)

-- The range from a start up to an end. It is None if they are equal.
abbrev pub range_between : ℕ × ℕ → Result (Option Range) Cause
range_between bounds = do
  _ ← refuse_if (nat_le (2 ^ 64) bounds.0 || nat_le (2 ^ 64) bounds.1) causes.Overflow
  _ ← refuse_if (nat_lt bounds.1 bounds.0) causes.RangeBackwards
  Ok (if bounds.0 == bounds.1 then None else Some (record { from = bounds.0; to = bounds.1 }))

-- The tombstone: the start address of discarded code. No code has this address. DWARF 5 does not
-- define it; it is this project's own rule.
abbrev pub tombstone : ℕ
tombstone = 2 ^ 64 - 1

-- The range between two bounds. It is None if the first is the tombstone.
abbrev pub live_range : ℕ × ℕ → Result (Option Range) Cause
live_range bounds = if bounds.0 == tombstone then Ok None else range_between bounds

-- The range between two offsets from the current base. It is None if the base is the tombstone.
abbrev pub live_range_from_base : ℕ → ℕ × ℕ → Result (Option Range) Cause
live_range_from_base base offsets =
    if base == tombstone then Ok None else range_between (base + offsets.0, base + offsets.1)

-- The operands of each kind of entry by its code, from DW_RLE_end_of_list to DW_RLE_start_length
-- (2.17.3 and 7.25, table 7.30). The end of a list is None. Other lengths and offsets are numbers.
abbrev pub kinds : List (Option Operands)
kinds =
    None
    ∷ Some (record { first = Index; second = None })
    ∷ Some (record { first = Index; second = Some Index })
    ∷ Some (record { first = Index; second = Some Number })
    ∷ Some (record { first = Number; second = Some Number })
    ∷ Some (record { first = Address; second = None })
    ∷ Some (record { first = Address; second = Some Address })
    ∷ Some (record { first = Address; second = Some Number })
    ∷ []

abbrev pub operands_of : ℕ → Result (Option Operands) Cause
operands_of code = ok_or (slice_get kinds code) causes.RangeKind

-- The current base after an entry, and after these entries of a list: the one set by the last base
-- entry, otherwise the one before them.
abbrev pub next_base : RangeListEntry → Option ℕ → Option ℕ
next_base (Base new) base = Some new
next_base (Covers range) base = base

abbrev pub base_after : Option ℕ → List RangeListEntry → Option ℕ
base_after base [] = base
base_after base (entry ∷ rest) = base_after (next_base entry base) rest

-- The range of an entry of a list, if any.
abbrev pub ranges_in : RangeListEntry → List Range
ranges_in (Base base) = []
ranges_in (Covers range) = option_to_list range

-- An operand at an offset of .debug_rnglists: an address, its index in .debug_addr, or a number.
abbrev pub operand_at : Sections → Bases → Operand → List ℕ → ℕ → Result (ℕ × ℕ) Cause
operand_at sections bases Index lists at = do
  index ← reading (uleb_at lists at)
  address ← item_at Addr sections.debug_addr bases.addr index.0
  Ok (address, index.1)
operand_at sections bases Address lists at = reading (u64_at lists at)
operand_at sections bases Number lists at = reading (uleb_at lists at)

-- The end of a range, given its second operand. A number is the length of the range.
abbrev pub end_of : Operand → ℕ → ℕ → ℕ
end_of Index start value = value
end_of Address start value = value
end_of Number start value = start + value

-- The range of two operands. Two numbers are offsets from the current base.
abbrev pub range_of : Operand → Operand → Option ℕ → ℕ → ℕ → Result (Option Range) Cause
range_of Index second base start value = live_range (start, end_of second start value)
range_of Address second base start value = live_range (start, end_of second start value)
range_of Number second base start value =
    ok_or base causes.Base >>= λ from. live_range_from_base from (start, value)

-- The entry with these operands, which are at an offset. `base` is the current base. An entry with
-- one operand sets the base. An entry with two covers their range.
unfoldable pub entry_at : Sections → Bases → Option ℕ → Operands → List ℕ → ℕ
    → Result (RangeListEntry × ℕ) Cause
entry_at sections bases base operands lists at = do
  first ← operand_at sections bases operands.first lists at
  elim operands.second [
    | None ↦ Ok (Base first.0, first.1)
    | Some operand ↦ (do
      second ← operand_at sections bases operand lists first.1
      range ← range_of operands.first operand base first.0 second.0
      Ok (Covers range, second.1))
  ]

-- The entry at an offset. `count` is the number of entries before it in the list, and `budget` is
-- the maximum number of entries.
abbrev pub list_entry_of : ℕ → Sections → Bases → ℕ → Option ℕ → List ℕ → ℕ
    → Result (Next RangeListEntry) Cause
list_entry_of budget sections bases count base lists at = do
  code ← reading (u8_at lists at)
  operands ← operands_of code.0
  elim operands [
    | None ↦ Ok (End code.1)
    | Some operands ↦ (do
      _ ← refuse_if (nat_le budget count) causes.TooMany
      entry ← entry_at sections bases base operands lists code.1
      Ok (Item entry.0 entry.1))
  ]

-- The same entry, given the entries before it.
abbrev pub list_entry_at : ℕ → Sections → Bases → List ℕ → List RangeListEntry → ℕ
    → Result (Next RangeListEntry) Cause
list_entry_at budget sections bases lists before at =
    list_entry_of budget sections bases (length before) (base_after bases.low_pc before) lists at

-- The ranges of a scope, and the number of items that they were read from.
pub record Covering : Type 0 where
  pub ranges : List Range
  pub items : ℕ

-- The offset of the list that an attribute refers to: an item of the table, or the value itself.
abbrev pub list_place : Sections → Bases → AttributeValue → Result ℕ Cause
list_place sections bases value = if value.form == DW_FORM_RNGLISTX then (do
  offset ← item_at RngLists sections.debug_rnglists bases.rnglists value.number
  table ← ok_or bases.rnglists causes.Base
  Ok (table.base + offset)) else Ok value.number

-- The ranges of the range list at an offset.
unfoldable pub list_at : ℕ → Sections → Bases → ℕ → Result Covering Cause
list_at budget sections bases place = do
  all ← without_offset (items_from (length sections.debug_rnglists)
      (list_entry_at budget sections bases sections.debug_rnglists) [] place)
  Ok (record { ranges = flat_map ranges_in all.0; items = length all.0 })

-- The ranges of the range list that an attribute refers to.
abbrev pub list_of : ℕ → Sections → Bases → AttributeValue → Result Covering Cause
list_of budget sections bases value = list_place sections bases value
    >>= list_at budget sections bases

-- The end of a high_pc: an address, or a length added to the start.
abbrev pub high_of : Sections → Bases → ℕ → AttributeValue → Result ℕ Cause
high_of sections bases low high =
    if is_among address_forms high.form then address_of sections bases.addr high
    else Ok (low + high.number)

-- The range of a low_pc and a high_pc.
abbrev pub pair_range : Sections → Bases → AttributeValue → AttributeValue
    → Result (Option Range) Cause
pair_range sections bases low high = do
  start ← address_of sections bases.addr low
  end ← high_of sections bases start high
  live_range (start, end)

-- The same range, if the budget has at least one item.
abbrev pub pair_at : ℕ → Sections → Bases → AttributeValue → AttributeValue → Result Covering Cause
pair_at budget sections bases low high = do
  _ ← refuse_if (budget == 0) causes.TooMany
  range ← pair_range sections bases low high
  Ok (record { ranges = option_to_list range; items = 1 })

-- The ranges of an entry, given its low_pc, high_pc and ranges.
abbrev pub covers_by : ℕ → Sections → Bases → Option AttributeValue → Option AttributeValue
    → Option AttributeValue → Result Covering Cause
covers_by budget sections bases None None (Some ranges) = list_of budget sections bases ranges
covers_by budget sections bases low high (Some ranges) = Err causes.PcAndRanges
covers_by budget sections bases None (Some high) None = Err causes.PcAndRanges
covers_by budget sections bases (Some low) (Some high) None = pair_at budget sections bases low high
covers_by budget sections bases low None None = Ok (record { ranges = []; items = 0 })

unfoldable pub covers_of : ℕ → Sections → Bases → Die → Result Covering Cause
covers_of budget sections bases die = covers_by budget sections bases
    (attribute die DW_AT_LOW_PC) (attribute die DW_AT_HIGH_PC) (attribute die DW_AT_RANGES)

-- The ranges of an entry are appended. On success, the result also has the number of range list
-- items that were read.
abbrev pub AddsRanges : Result ℕ Cause → List Range → List Range → Result Covering Cause → Type 0
AddsRanges (Ok items) old new outcome =
    (found : List Range) × (outcome ≡ Ok (record { ranges = found; items = items }))
    × (new ≡ old ++ found)
AddsRanges (Err cause) old new outcome = Fails cause outcome
