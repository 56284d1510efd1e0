-- The line number machine (DWARF 5, 6.2.2): its registers, the effect of each instruction on them,
-- and the rows that it appends to the matrix.
use Rattle.std.specs.Prelude.{ℕ, ◌+◌, ◌*◌, ◌-◌, ◌%◌, ℤ, pos, ◌+ℤ◌, List, [], ◌∷◌, ◌++◌, Bool, true}
use Rattle.std.specs.Prelude.{false, Result, Ok, if◌then◌else◌}
use Rattle.dwarf_bytes.specs.Bind.{◌>>=◌}
use Rattle.dwarf_bytes.specs.declared.fault.Cause.{Cause}
use Rattle.dwarf_lines.specs.declared.row.Row.{Row}
use Rattle.dwarf_lines.specs.declared.row.Origin.{Origin}
use Rattle.dwarf_lines.specs.declared.instruction.Instruction.{Instruction}
use Rattle.dwarf_lines.specs.declared.instruction.Instruction.TheVariants.{Copy, AdvancePc}
use Rattle.dwarf_lines.specs.declared.instruction.Instruction.TheVariants.{AdvanceLine, SetFile}
use Rattle.dwarf_lines.specs.declared.instruction.Instruction.TheVariants.{ConstAddPc}
use Rattle.dwarf_lines.specs.declared.instruction.Instruction.TheVariants.{FixedAdvancePc}
use Rattle.dwarf_lines.specs.declared.instruction.Instruction.TheVariants.{SetAddress, EndSequence}
use Rattle.dwarf_lines.specs.declared.instruction.Instruction.TheVariants.{Special, Skipped}
use Rattle.dwarf_lines.specs.Instructions.{Encoding}
use Rattle.dwarf_lines.specs.Matrix.{address_part, is_tombstone, line_row, end_row}

-- the registers that become columns of rows, the address of the last row of the sequence (0 if
-- none), whether the sequence has a row, and whether it is dead code
pub record Machine : Type 0 where
  pub address : ℕ
  pub file : ℕ
  pub line : ℤ
  pub previous : ℕ
  pub has_row : Bool
  pub at_tombstone : Bool

-- the registers at the start of each sequence
abbrev pub at_start : Machine
at_start =
    record {
      address = 0;
      file = 1;
      line = pos 1;
      previous = 0;
      has_row = false;
      at_tombstone = false;
    }

abbrev pub after_advance : ℕ → Machine → Machine
after_advance addresses m = record m { address = m.address + addresses }

abbrev pub after_line_change : ℤ → Machine → Machine
after_line_change lines m = record m { line = m.line +ℤ lines }

-- the registers after a row is appended
abbrev pub after_row : Machine → Machine
after_row m = record m { previous = m.address; has_row = true }

-- the registers after an address is set; before the first row of the sequence, this determines
-- whether the sequence is dead code
abbrev pub after_set_address : ℕ → Machine → Machine
after_set_address address m =
    record m {
      address = address;
      at_tombstone = if m.has_row then m.at_tombstone else is_tombstone
          address;
    }

-- The effect of an instruction on the registers (6.2.5.1 to 6.2.5.3).
abbrev pub step : Encoding → Machine → Instruction → Machine
step e m Copy = after_row m
step e m (AdvancePc n) = after_advance (e.minimum_length * n) m
step e m (AdvanceLine change) = after_line_change change m
step e m (SetFile file) = record m { file = file }
step e m ConstAddPc = after_advance (address_part e (255 - e.opcode_base)) m
step e m (FixedAdvancePc n) = after_advance n m
step e m (SetAddress address) = after_set_address address m
step e m EndSequence = at_start
step e m (Special adjusted) = after_row (after_line_change (e.line_base +ℤ pos
    (adjusted % e.line_range))
    (after_advance (address_part e adjusted) m))
step e m Skipped = m

-- the row of the registers; previous is the address of the row before it
abbrev pub row_of_registers : Origin → ℕ → Machine → Result (List Row) Cause
row_of_registers o previous m = line_row o previous m.address m.line m.file >>= λ row. Ok (row ∷ [])

-- the rows that an instruction appends in a sequence that is not dead code
abbrev pub appended_live : Encoding → Origin → Machine → Instruction → Result (List Row) Cause
appended_live e o m Copy = row_of_registers o m.previous (step e m Copy)
appended_live e o m (Special adjusted) = row_of_registers o m.previous (step e m (Special adjusted))
appended_live e o m EndSequence = end_row o m.previous m.address >>= λ row. Ok (row ∷ [])
appended_live e o m _ = Ok []

-- The rows that an instruction appends: at most one, or the first fault of the row. In a sequence
-- of dead code no row is appended.
abbrev pub appended : Encoding → Origin → Machine → Instruction → Result (List Row) Cause
appended e o m i = if m.at_tombstone then Ok [] else appended_live e o m i

-- the rows appended while the instructions are executed in order, or the first fault
unfoldable pub rows_by : Encoding → Origin → Machine → List Instruction → Result (List Row) Cause
rows_by e o m [] = Ok []
rows_by e o m (i ∷ rest) = do
  row ← appended e o m i
  rows ← rows_by e o (step e m i) rest
  Ok (row ++ rows)
