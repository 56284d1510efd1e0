-- The entries of range lists: each takes at least one byte, and its range, if any, is nonempty.
use Rattle.dwarf_bytes.proofs.Numbers.{Advance.{MovesOn, bind_ok}, Moves.{fixed_at-moves, u8-moves}}
use Rattle.dwarf_bytes.proofs.Numbers.Moves.{uleb-moves}
use Rattle.dwarf_bytes.specs.{Bind.◌>>=◌, Items.{Advances, End, Item, Next, reading, refuse_if}}
use Rattle.dwarf_bytes.specs.{Numbers.u8_at, declared.fault.Cause.Cause}
use Rattle.dwarf_ranges.specs.Ranges.{IsValidRange, entry_at, list_entry_at, list_entry_of}
use Rattle.dwarf_ranges.specs.Ranges.{live_range, operand_at, operands_of, range_of, ranges_in}
use Rattle.dwarf_ranges.specs.declared.{bases.Bases.Bases, range.Range.Range}
use Rattle.dwarf_ranges.specs.declared.range_entries.{Operand.Operand, Operands.Operands}
use Rattle.dwarf_ranges.specs.declared.range_entries.RangeListEntry.{RangeListEntry}
use Rattle.dwarf_walk.specs.Sections.{Sections}
use Rattle.std.proofs.Common.{All, List, None, Ok, Option, Result, Some, arith, length, nat_le}
use Rattle.std.proofs.Common.{option_to_list, ℕ, ◌<◌, ◌≡◌, ◌≤◌}
use Rattle.dwarf_bytes.specs.declared.fault.Cause.TheVariants as causes

-- ---- the range between two bounds

abbrev pub AllHold : List Range → Type 0
AllHold ranges = All IsValidRange ranges

pub live-holds : (bounds : ℕ × ℕ) (range : Option Range) → live_range bounds ≡ Ok range
    → AllHold (option_to_list range)
live-holds bounds range h i d within = grind arith

range_of-holds : (first second : Operand) (base : Option ℕ) (start value : ℕ)
    (range : Option Range) → range_of first second base start value ≡ Ok range
    → AllHold (option_to_list range)
range_of-holds first second base start value range h i d within = grind arith

-- ---- the entries of a list

operand-moves : (sections : Sections) (bases : Bases) (operand : Operand) (lists : List ℕ) (at : ℕ)
    (x : ℕ × ℕ) → operand_at sections bases operand lists at ≡ Ok x → MovesOn lists at x.1
operand-moves sections bases operand lists at x h = grind (arith, uleb-moves, fixed_at-moves)

abbrev pub EntryHolds : RangeListEntry → Type 0
EntryHolds entry = AllHold (ranges_in entry) × (length (ranges_in entry) ≤ 1)

entry_at-facts : (sections : Sections) (bases : Bases) (base : Option ℕ) (operands : Operands)
    (lists : List ℕ) (at : ℕ) (x : RangeListEntry × ℕ)
    → entry_at sections bases base operands lists at ≡ Ok x
    → MovesOn lists at x.1 × EntryHolds x.0
unfolding entry_at
entry_at-facts sections bases base operands lists at x h = (
  grind (arith, λ (o : Operand) (k : ℕ). operand-moves sections bases o lists k),
  ((λ i d within. grind (arith, range_of-holds operands.first)), grind arith),
)

pub list_entry-facts : (budget : ℕ) (sections : Sections) (bases : Bases) (count : ℕ)
    (base : Option ℕ) (lists : List ℕ) (at : ℕ) (x : RangeListEntry) (after : ℕ)
    → list_entry_of budget sections bases count base lists at ≡ Ok (Item x after)
    → MovesOn lists at after × EntryHolds x × (count < budget)
list_entry-facts budget sections bases count base lists at x after h =
    let code = bind_ok (reading (u8_at lists at)) _ (Item x after) h in
    let operands = bind_ok (operands_of code.0.0) _ (Item x after) code.2 in
    by_operands code.0 (u8-moves lists at code.0 code.1) operands.0 operands.2
  where
    by_operands : (code : ℕ × ℕ) → MovesOn lists at code.1 → (operands : Option Operands)
        → (elim operands as (λ _. Result (Next RangeListEntry) Cause) [
          | None ↦ Ok (End code.1)
          | Some operands ↦ (refuse_if (nat_le budget count) causes.TooMany
              >>= λ _. entry_at sections bases base operands lists code.1
              >>= λ entry. Ok (Item entry.0 entry.1))
        ]) ≡ Ok (Item x after) → MovesOn lists at after × EntryHolds x × (count < budget)
    by_operands code moved None h = cc
    by_operands code moved (Some operands) h =
        let entry : (e : RangeListEntry × ℕ)
        × (entry_at sections bases base operands lists code.1 ≡ Ok e) × (e.0 ≡ x) × (e.1 ≡ after)
        × (count < budget) = grind arith in
        let facts = entry_at-facts sections bases base operands lists code.1 entry.0 entry.1 in
        (omega arith, rw (← entry.2) facts.1, entry.4)

pub list_entry_at-advances : (budget : ℕ) (sections : Sections) (bases : Bases) (lists : List ℕ)
    → Advances (length lists) (list_entry_at budget sections bases lists)
list_entry_at-advances budget sections bases lists before at x after h =
    grind (arith, list_entry-facts)
