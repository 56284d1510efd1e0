-- The instructions of a line program (DWARF 5, 6.2.5), decoded from the bytes at an offset.
use Rattle.std.specs.Prelude.{ℕ, zero, suc, ◌-◌, ℤ, List, [], ◌∷◌, length, drop, slice_index}
use Rattle.std.specs.Prelude.{Result, Ok, Err, Option, Some, None, nat_lt, nat_le, ◌==◌}
use Rattle.std.specs.Prelude.{if◌then◌else◌}
use Rattle.dwarf_bytes.specs.declared.constants.TheConstants.{DW_LNS_COPY, DW_LNS_ADVANCE_PC}
use Rattle.dwarf_bytes.specs.declared.constants.TheConstants.{DW_LNS_ADVANCE_LINE, DW_LNS_SET_FILE}
use Rattle.dwarf_bytes.specs.declared.constants.TheConstants.{DW_LNS_CONST_ADD_PC}
use Rattle.dwarf_bytes.specs.declared.constants.TheConstants.{DW_LNS_FIXED_ADVANCE_PC}
use Rattle.dwarf_bytes.specs.declared.constants.TheConstants.{DW_LNE_END_SEQUENCE}
use Rattle.dwarf_bytes.specs.declared.constants.TheConstants.{DW_LNE_SET_ADDRESS}
use Rattle.dwarf_bytes.specs.Bind.{◌>>=◌}
use Rattle.dwarf_bytes.specs.Numbers.{block_at, u8_at, u16_at, uleb_at, sleb_at, little_endian}
use Rattle.dwarf_bytes.specs.declared.fault.Cause.{Cause}
use Rattle.dwarf_bytes.specs.declared.fault.Cause.TheVariants as causes
use Rattle.dwarf_lines.specs.declared.line_encoding.LineEncoding.{LineEncoding}
use Rattle.dwarf_lines.specs.declared.instruction.Instruction.{Instruction}
use Rattle.dwarf_lines.specs.declared.instruction.Instruction.TheVariants.{Copy, AdvancePc}
use Rattle.dwarf_lines.specs.declared.instruction.Instruction.TheVariants.{AdvanceLine, SetFile}
use Rattle.dwarf_lines.specs.declared.instruction.Instruction.TheVariants.{ConstAddPc}
use Rattle.dwarf_lines.specs.declared.instruction.Instruction.TheVariants.{FixedAdvancePc}
use Rattle.dwarf_lines.specs.declared.instruction.Instruction.TheVariants.{SetAddress, EndSequence}
use Rattle.dwarf_lines.specs.declared.instruction.Instruction.TheVariants.{Special, Skipped}
use Rattle.dwarf_bytes.specs.Items.{reading}

-- the header fields that determine how instructions are decoded (DWARF 5, 6.2.4)
pub record Encoding : Type 0 where
  pub minimum_length : ℕ
  pub line_base : ℤ
  pub line_range : ℕ
  pub opcode_base : ℕ
  pub opcode_lengths : List ℕ

abbrev pub encoding : LineEncoding → Encoding
encoding h = record {
  minimum_length = h.minimum_instruction_length;
  line_base = h.line_base;
  line_range = h.line_range;
  opcode_base = h.opcode_base;
  opcode_lengths = h.opcode_lengths.now;
}

-- skips count unsigned LEB128 operands and returns the offset after them
unfoldable pub after_ulebs : ℕ → List ℕ → ℕ → Result ℕ Cause
after_ulebs zero bytes place = Ok place
after_ulebs (suc count) bytes place = do
  operand ← reading (uleb_at bytes place)
  after_ulebs count bytes operand.1

-- an instruction with one operand
abbrev pub with_operand : {X : Type 0} → (X → Instruction) → X × ℕ → Result (Instruction × ℕ) Cause
with_operand make operand = Ok (make operand.0, operand.1)

-- Extended opcodes (6.2.5.3): an opcode and its operands, which fill the preceding length.
unfoldable pub extended_of : List ℕ → Result Instruction Cause
extended_of body =
    if slice_index body 0 == DW_LNE_END_SEQUENCE then
    (if length body == 1 then Ok EndSequence else Err causes.Extended)
    else if slice_index body 0 == DW_LNE_SET_ADDRESS then
    (if length body == 9 then Ok (SetAddress (little_endian (drop 1 body)))
    else Err causes.Extended)
    else Ok Skipped

unfoldable pub extended_at : List ℕ → ℕ → Result (Instruction × ℕ) Cause
extended_at bytes place = do
  len ← reading (uleb_at bytes place)
  if len.0 == 0 then Err causes.Extended else (do
    body ← reading (block_at len.0 bytes len.1)
    i ← extended_of body.0
    Ok (i, body.1))

-- Standard opcodes (6.2.5.2), and unknown opcodes below opcode_base.
unfoldable pub standard_at : Encoding → ℕ → List ℕ → ℕ → Result (Instruction × ℕ) Cause
standard_at e opcode bytes place =
    if opcode == DW_LNS_COPY then Ok (Copy, place)
    else if opcode == DW_LNS_ADVANCE_PC then reading (uleb_at bytes place)
    >>= with_operand AdvancePc
    else if opcode == DW_LNS_ADVANCE_LINE then reading (sleb_at bytes place)
    >>= with_operand AdvanceLine
    else if opcode == DW_LNS_SET_FILE then reading (uleb_at bytes place) >>= with_operand SetFile
    else if opcode == DW_LNS_CONST_ADD_PC then Ok (ConstAddPc, place)
    else if opcode == DW_LNS_FIXED_ADVANCE_PC then reading (u16_at bytes place)
    >>= with_operand FixedAdvancePc
    else after_ulebs (slice_index e.opcode_lengths (opcode - 1)) bytes place
    >>= λ after. Ok (Skipped, after)

-- An instruction, and the offset after it. Opcodes from opcode_base on are special; they are
-- decoded as opcode minus opcode_base (6.2.5.1).
unfoldable pub instruction_at : Encoding → List ℕ → ℕ → Result (Instruction × ℕ) Cause
instruction_at e bytes place = do
  opcode ← reading (u8_at bytes place)
  if nat_le e.opcode_base opcode.0 then Ok (Special (opcode.0 - e.opcode_base), opcode.1)
      else if opcode.0 == 0 then extended_at bytes opcode.1
      else standard_at e opcode.0 bytes opcode.1

-- the instructions from an offset on, and the fault if one cannot be read
pub record Reading : Type 0 where
  pub instructions : List Instruction
  pub fault : Option Cause

-- an instruction, followed by the rest of a reading
abbrev pub onto_reading : Instruction → Reading → Reading
onto_reading i rest = record rest { instructions = i ∷ rest.instructions }

-- the end of a reading
abbrev pub no_more : Option Cause → Reading
no_more fault = record { instructions = []; fault = fault }

abbrev pub read_on : Result (Instruction × ℕ) Cause → (ℕ → Reading) → Reading
read_on (Ok i) rest = onto_reading i.0 (rest i.1)
read_on (Err cause) rest = no_more (Some cause)

-- The instructions up to the end of the bytes or the first fault. Each instruction has at least one
-- byte, so the number of bytes is a sufficient number of steps.
unfoldable pub reading_from : ℕ → Encoding → List ℕ → ℕ → Reading
reading_from zero e bytes place = no_more None
reading_from (suc steps) e bytes place =
    if nat_lt place (length bytes)
    then read_on (instruction_at e bytes place) (reading_from steps e bytes) else no_more None

abbrev pub reading_of : Encoding → List ℕ → ℕ → Reading
reading_of e bytes place = reading_from (length bytes - place) e bytes place
