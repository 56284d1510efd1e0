-- The invariant of the code's registers.
use Rattle.std.specs.Prelude.{◌≡◌, ℕ, ◌^◌, ◌≤◌, ◌+◌, ℤ, List, ◌∷◌, Option, Some, None, Result, Ok}
use Rattle.std.specs.Prelude.{Err, option_to_list, Bool, true, false, ◌&&◌, unsigned_abs}
use Rattle.dwarf_bytes.specs.declared.fault.Cause.{Cause}
use Rattle.dwarf_lines.specs.declared.row.Row.{Row}
use Rattle.dwarf_lines.specs.declared.row.Origin.{Origin}
use Rattle.dwarf_lines.specs.declared.registers.Registers.{Registers}
use Rattle.dwarf_lines.specs.declared.instruction.Instruction.{Instruction}
use Rattle.dwarf_lines.specs.declared.instruction.Instruction.TheVariants.{AdvanceLine}
use Rattle.dwarf_bytes.specs.Refusals.{Fails}
use Rattle.dwarf_lines.specs.Instructions.{Encoding}
use Rattle.dwarf_lines.specs.Matrix.{address_after, line_after, file_after, is_open}
use Rattle.dwarf_lines.specs.Matrix.{starts_at_tombstone, row_before, line_row, made, with_front}

-- a sum, or None if it is 2 ^ 64 or more
abbrev pub IsSum : Option ℕ → ℕ → Type 0
IsSum None sum = 2 ^ 64 ≤ sum
IsSum (Some n) sum = n ≡ sum

-- whether the sequence has a row that was discarded
abbrev pub has_discarded_row : List Instruction → Bool
has_discarded_row before = is_open before && starts_at_tombstone before

-- The registers are the ones after these instructions. The address of the last row is only
-- maintained if no row was discarded.
pub record AreRegisters (e : Encoding) (before : List Instruction) (r : Registers) : Type 0 where
  pub address : IsSum r.address (address_after e before)
  pub line : r.line ≡ line_after e before
  pub file : r.file ≡ file_after before
  pub previous : has_discarded_row before ≡ false → r.previous ≡ row_before e before
  pub has_row : r.has_row ≡ is_open before
  pub at_tombstone : r.at_tombstone ≡ starts_at_tombstone before

-- The row of the registers is built at the address sum, and becomes the last row. In a sequence of
-- dead code it is discarded.
abbrev pub BuildsRow : Origin → Registers → ℕ → Result (Option Row) Cause → Registers → Type 0
BuildsRow origin old sum (Ok (Some row)) new = (old.at_tombstone ≡ false)
    × (line_row origin old.previous sum old.line old.file ≡ Ok row)
    × (new ≡ record old { previous = row.address; has_row = true })
BuildsRow origin old sum (Ok None) new = (old.at_tombstone ≡ true)
    × (new ≡ record old { has_row = true })
BuildsRow origin old sum (Err cause) new = (old.at_tombstone ≡ false)
    × (line_row origin old.previous sum old.line old.file ≡ Err cause)

-- the row that ends a sequence; a sequence of dead code has none
abbrev pub last_row : Bool → Result Row Cause → Result (Option Row) Cause
last_row true row = Ok None
last_row false (Ok row) = Ok (Some row)
last_row false (Err cause) = Err cause

-- A step after these instructions returns what the instruction makes, and leaves the registers
-- after it.
abbrev pub Makes : Encoding → Origin → List Instruction → Instruction → Result (Option Row) Cause
    → Registers → Type 0
Makes e origin before i (Ok row) new = (made e origin before i ≡ Ok (option_to_list row))
    × AreRegisters e (i ∷ before) new
Makes e origin before i (Err cause) new = made e origin before i ≡ Err cause

-- the absolute line increment given by the operand of an instruction
abbrev pub line_reach : Instruction → ℕ
line_reach (AdvanceLine change) = unsigned_abs change
line_reach _ = 0

-- a bound on the change of the line register by a special opcode or an operand
abbrev pub Reaches : ℤ → ℤ → Instruction → Type 0
Reaches old new i = unsigned_abs new ≤ 2 ^ 10 + unsigned_abs old + line_reach i

-- The rows of the outcome were appended, or the fault is that of the outcome, unless memory ran
-- out.
abbrev pub Adds : {X : Type 0} → Result X Cause → List Row → List Row → Result (List Row) Cause
    → Type 0
Adds (Ok _) old new outcome = with_front old outcome ≡ Ok new
Adds (Err cause) old new outcome = Fails cause outcome
