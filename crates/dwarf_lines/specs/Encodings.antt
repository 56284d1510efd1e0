-- The encoding of instructions (DWARF 5, 6.2.5), with one case for each opcode.
use Rattle.std.specs.Prelude.{◌≡◌, ◌≢◌, ℕ, zero, suc, ◌+◌, ◌-◌, ◌<◌, ℤ, List, [], ◌∷◌, ◌++◌, length}
use Rattle.std.specs.Prelude.{slice_index}
use Rattle.dwarf_bytes.specs.declared.constants.TheConstants.{DW_LNS_COPY, DW_LNS_ADVANCE_PC}
use Rattle.dwarf_bytes.specs.declared.constants.TheConstants.{DW_LNS_ADVANCE_LINE, DW_LNS_SET_FILE}
use Rattle.dwarf_bytes.specs.declared.constants.TheConstants.{DW_LNS_CONST_ADD_PC}
use Rattle.dwarf_bytes.specs.declared.constants.TheConstants.{DW_LNS_FIXED_ADVANCE_PC}
use Rattle.dwarf_bytes.specs.declared.constants.TheConstants.{DW_LNE_END_SEQUENCE}
use Rattle.dwarf_bytes.specs.declared.constants.TheConstants.{DW_LNE_SET_ADDRESS}
use Rattle.dwarf_bytes.specs.Numbers.{IsUleb, IsSleb, little_endian}
use Rattle.dwarf_lines.specs.declared.instruction.Instruction.{Instruction}
use Rattle.dwarf_lines.specs.declared.instruction.Instruction.TheVariants.{Copy, AdvancePc}
use Rattle.dwarf_lines.specs.declared.instruction.Instruction.TheVariants.{AdvanceLine, SetFile}
use Rattle.dwarf_lines.specs.declared.instruction.Instruction.TheVariants.{ConstAddPc}
use Rattle.dwarf_lines.specs.declared.instruction.Instruction.TheVariants.{FixedAdvancePc}
use Rattle.dwarf_lines.specs.declared.instruction.Instruction.TheVariants.{SetAddress, EndSequence}
use Rattle.dwarf_lines.specs.declared.instruction.Instruction.TheVariants.{Special, Skipped}
use Rattle.dwarf_lines.specs.Instructions.{Encoding}

-- count unsigned LEB128 operands
pub data AreUlebs : ℕ → List ℕ → Type 0 where
  none : AreUlebs zero []
  more : {count : ℕ} {operands : List ℕ} → (operand : List ℕ) (value : ℕ) → IsUleb operand value
      → AreUlebs count operands → AreUlebs (suc count) (operand ++ operands)

-- opcodes below opcode_base that change no address, line or file and make no row
abbrev pub IsPassedOver : ℕ → Type 0
IsPassedOver opcode = (0 < opcode) × (opcode ≢ DW_LNS_COPY) × (opcode ≢ DW_LNS_ADVANCE_PC)
    × (opcode ≢ DW_LNS_ADVANCE_LINE) × (opcode ≢ DW_LNS_SET_FILE) × (opcode ≢ DW_LNS_CONST_ADD_PC)
    × (opcode ≢ DW_LNS_FIXED_ADVANCE_PC)

-- The bytes encode the instruction. Opcodes below opcode_base are standard, opcodes from it on are
-- special, and 0 precedes a length and an extended opcode.
pub data Encodes (e : Encoding) : List ℕ → Instruction → Type 0 where
  copy : DW_LNS_COPY < e.opcode_base → Encodes e (DW_LNS_COPY ∷ []) Copy
  advance_pc : {operand : List ℕ} → (n : ℕ) → DW_LNS_ADVANCE_PC < e.opcode_base → IsUleb operand n
      → Encodes e (DW_LNS_ADVANCE_PC ∷ operand) (AdvancePc n)
  advance_line : {operand : List ℕ} → (z : ℤ) → DW_LNS_ADVANCE_LINE < e.opcode_base
      → IsSleb operand z
      → Encodes e (DW_LNS_ADVANCE_LINE ∷ operand) (AdvanceLine z)
  set_file : {operand : List ℕ} → (n : ℕ) → DW_LNS_SET_FILE < e.opcode_base → IsUleb operand n
      → Encodes e (DW_LNS_SET_FILE ∷ operand) (SetFile n)
  const_add_pc : DW_LNS_CONST_ADD_PC < e.opcode_base
      → Encodes e (DW_LNS_CONST_ADD_PC ∷ []) ConstAddPc
  fixed_advance_pc : (low high : ℕ) → DW_LNS_FIXED_ADVANCE_PC < e.opcode_base
      → Encodes e (DW_LNS_FIXED_ADVANCE_PC ∷ low ∷ high ∷ [])
      (FixedAdvancePc (little_endian (low ∷ high ∷ [])))
  passed_over : {operands : List ℕ} → (opcode : ℕ) → opcode < e.opcode_base → IsPassedOver opcode
      → AreUlebs (slice_index e.opcode_lengths (opcode - 1)) operands
      → Encodes e (opcode ∷ operands) Skipped
  special : (adjusted : ℕ) → Encodes e ((adjusted + e.opcode_base) ∷ []) (Special adjusted)
  end_sequence : (len : List ℕ) → IsUleb len 1
      → Encodes e (0 ∷ (len ++ DW_LNE_END_SEQUENCE ∷ [])) EndSequence
  set_address : (len address : List ℕ) → IsUleb len 9 → length address ≡ 8
      → Encodes e (0 ∷ (len ++ DW_LNE_SET_ADDRESS ∷ address)) (SetAddress (little_endian address))
  other_extended : (len : List ℕ) (opcode : ℕ) (operands : List ℕ) → opcode ≢ DW_LNE_END_SEQUENCE
      → opcode ≢ DW_LNE_SET_ADDRESS → IsUleb len (suc (length operands))
      → Encodes e (0 ∷ (len ++ opcode ∷ operands)) Skipped

-- the bytes encode the instructions, in order
pub data AreEncoded (e : Encoding) : List ℕ → List Instruction → Type 0 where
  no_instruction : AreEncoded e [] []
  and_then : {rest : List ℕ} {is : List Instruction} → (bytes : List ℕ) (i : Instruction)
      → Encodes e bytes i
      → AreEncoded e rest is → AreEncoded e (bytes ++ rest) (i ∷ is)
