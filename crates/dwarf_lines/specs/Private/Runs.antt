-- Runs of instructions, and the registers of usual ones.
use Rattle.std.specs.Prelude.{◌≡◌, ℕ, ◌+◌, ◌*◌, ◌-◌, ◌^◌, ◌≤◌, ◌<◌, pos, unsigned_abs, List, ◌∷◌}
use Rattle.std.specs.Prelude.{length, Some, Result, Ok, false, ℤ, ◌+ℤ◌}
use Rattle.dwarf_bytes.specs.Numbers.{uleb_at, sleb_at}
use Rattle.dwarf_bytes.specs.declared.fault.Cause.{Cause}
use Rattle.dwarf_lines.specs.declared.row.Row.{Row}
use Rattle.dwarf_lines.specs.declared.row.Origin.{Origin}
use Rattle.dwarf_lines.specs.declared.registers.Registers.{Registers}
use Rattle.dwarf_lines.specs.declared.usual_registers.UsualRegisters.{UsualRegisters}
use Rattle.dwarf_lines.specs.declared.instruction.Instruction.{Instruction}
use Rattle.dwarf_lines.specs.Instructions.{Encoding, instruction_at, reading_from}
use Rattle.dwarf_lines.specs.Matrix.{made, matrix_after, with_front}
use Rattle.dwarf_lines.specs.Private.Registers.{AreRegisters, Reaches, line_reach}

-- The state of a loop over the instructions of the bytes: the current offset, the instructions
-- before it, and the remaining number of steps.
pub record IsRunning (e : Encoding) (o : Origin) (bytes : List ℕ) (total : Result (List Row) Cause)
    (before : List Instruction) (steps place : ℕ) (r : Registers) (rows : List Row) : Type 0 where
  pub registers : AreRegisters e before r
  pub enough : length bytes ≤ steps + place
  pub outcome : with_front rows (matrix_after e o before (reading_from steps e bytes place)) ≡ total
  pub line : unsigned_abs r.line ≤ 1 + (2 ^ 62 + 2 ^ 10) * place

-- the same after any instructions
abbrev pub RunsTo : Encoding → Origin → List ℕ → Result (List Row) Cause → ℕ → Registers
    → List Row → Type 0
RunsTo e o bytes total place r rows =
    (before : List Instruction) × ((steps : ℕ)
    × IsRunning e o bytes total before steps place r rows)

-- Execution leads from one state to another, whatever the outcome is.
abbrev pub Runs : Encoding → Origin → List ℕ → ℕ → Registers → List Row → ℕ → Registers → List Row
    → Type 0
Runs e o bytes place old rows after new new_rows = (total : Result (List Row) Cause)
    → RunsTo e o bytes total place old rows → RunsTo e o bytes total after new new_rows

-- An instruction leads from the registers `old` to `new`, and makes these rows.
pub record Executes (e : Encoding) (o : Origin) (i : Instruction) (old new : Registers)
    (row : List Row) : Type 0 where
  pub line : Reaches old.line new.line i
  pub makes : (before : List Instruction) → AreRegisters e before old
      → (made e o before i ≡ Ok row) × AreRegisters e (i ∷ before) new

-- The instruction at an offset is executed. The next one is at the offset `next`.
pub record ExecutesAt (e : Encoding) (o : Origin) (bytes : List ℕ) (at : ℕ) (old : Registers)
    (next : ℕ) (new : Registers) (row : List Row) : Type 0 where
  pub instruction : Instruction
  pub read : instruction_at e bytes at ≡ Ok (instruction, next)
  pub moves : at < next
  pub reach : line_reach instruction ≤ 2 ^ 62 * (next - at)
  pub executes : Executes e o instruction old new row

-- the registers of the machine
abbrev pub machine_of : UsualRegisters → Registers
machine_of u = record {
  address = Some u.address;
  line = pos u.line;
  file = u.file;
  previous = u.previous;
  has_row = u.has_row;
  at_tombstone = false;
}

-- The address and the file are valid in a row.
pub record AreUsual (origin : Origin) (u : UsualRegisters) : Type 0 where
  pub file : u.file < origin.files
  pub address : u.previous ≤ u.address

-- The line is advanced by the signed operand at an offset.
abbrev pub AdvancesLine : List ℕ → ℕ → ℕ → ℕ → ℕ → Type 0
AdvancesLine bytes place next old new =
    (change : ℤ) × (sleb_at bytes place ≡ Ok (change, next)) × (unsigned_abs change ≤ 2 ^ 14)
    × (pos new ≡ pos old +ℤ change)

-- The address is advanced by the unsigned operand at an offset.
abbrev pub AdvancesAddress : List ℕ → ℕ → ℕ → ℕ → ℕ → ℕ → Type 0
AdvancesAddress bytes place next factor old new =
    (operand : ℕ) × (uleb_at bytes place ≡ Ok (operand, next)) × (new ≡ old + factor * operand)
