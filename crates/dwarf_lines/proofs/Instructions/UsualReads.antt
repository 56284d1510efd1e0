-- The usual instructions, read at an offset.
use Rattle.std.proofs.Common.{◌≡◌, ◌≢◌, ℕ, ◌+◌, ◌-◌, ◌<◌, ◌≤◌, List, [], ◌∷◌, length, drop}
use Rattle.std.proofs.Common.{Ok, refl, ap, ◌∙◌, arith}
use Rattle.std.specs.Prelude.{ℤ, slice_index}
use Rattle.std.proofs.lemmas.List.{drop_more}
use Rattle.dwarf_bytes.specs.Numbers.{u8_at, uleb_at, sleb_at}
use Rattle.dwarf_lines.specs.declared.instruction.Instruction.TheVariants.{Copy, AdvancePc}
use Rattle.dwarf_lines.specs.declared.instruction.Instruction.TheVariants.{AdvanceLine, SetFile}
use Rattle.dwarf_lines.specs.declared.instruction.Instruction.TheVariants.{Special, Skipped}
use Rattle.dwarf_lines.specs.Instructions.{Encoding, after_ulebs, standard_at, instruction_at}
use Rattle.dwarf_lines.proofs.Instructions.InstructionReads.{standard_is, special_is}
use Rattle.dwarf_lines.proofs.Lists.Spans.{byte-again, stretch}

module _ (e : Encoding) (bytes : List ℕ) (at : ℕ) (within : at < length bytes) where
  opcode-read : (opcode : ℕ) → slice_index bytes at ≡ opcode → u8_at bytes at ≡ Ok (opcode, at + 1)
  opcode-read opcode is = byte-again bytes at opcode (at + 1)
      (stretch bytes at (opcode ∷ []) (drop (at + 1) bytes) (at + 1)
      (drop_more bytes at 0 within ∙ ap (λ (b : ℕ). b ∷ drop (at + 1) bytes) is) refl)

  -- an opcode below opcode_base
  standard-read : (opcode : ℕ) → slice_index bytes at ≡ opcode → opcode < e.opcode_base → opcode ≢ 0
      → instruction_at e bytes at ≡ standard_at e opcode bytes (at + 1)
  standard-read opcode is = standard_is e bytes at opcode (at + 1) (opcode-read opcode is)

  pub special-read : e.opcode_base ≤ slice_index bytes at
      → instruction_at e bytes at ≡ Ok (Special (slice_index bytes at - e.opcode_base), at + 1)
  special-read known =
      let opcode : slice_index bytes at ≡ slice_index bytes at - e.opcode_base + e.opcode_base =
      omega (arith, known) in
      special_is e bytes at (slice_index bytes at - e.opcode_base) (at + 1)
      (opcode-read (slice_index bytes at - e.opcode_base + e.opcode_base) opcode)

  pub copy-read : slice_index bytes at ≡ 1 → 1 < e.opcode_base
      → instruction_at e bytes at ≡ Ok (Copy, at + 1)
  unfolding standard_at
  copy-read is known = standard-read 1 is known (λ h. omega (arith, h)) ∙ refl

  pub column-read : (value next : ℕ) → slice_index bytes at ≡ 5 → 5 < e.opcode_base
      → slice_index e.opcode_lengths 4 ≡ 1 → uleb_at bytes (at + 1) ≡ Ok (value, next)
      → instruction_at e bytes at ≡ Ok (Skipped, next)
  unfolding standard_at after_ulebs
  column-read value next is known one operand =
      standard-read 5 is known (λ h. omega (arith, h)) ∙ rw (one, operand) refl

  pub statement-read : slice_index bytes at ≡ 6 → 6 < e.opcode_base
      → slice_index e.opcode_lengths 5 ≡ 0 → instruction_at e bytes at ≡ Ok (Skipped, at + 1)
  unfolding standard_at after_ulebs
  statement-read is known none =
      standard-read 6 is known (λ h. omega (arith, h)) ∙ rw none refl

  pub line-read : (change : ℤ) (next : ℕ) → slice_index bytes at ≡ 3 → 3 < e.opcode_base
      → sleb_at bytes (at + 1) ≡ Ok (change, next)
      → instruction_at e bytes at ≡ Ok (AdvanceLine change, next)
  unfolding standard_at
  line-read change next is known operand =
      standard-read 3 is known (λ h. omega (arith, h)) ∙ rw operand refl

  pub pc-read : (value next : ℕ) → slice_index bytes at ≡ 2 → 2 < e.opcode_base
      → uleb_at bytes (at + 1) ≡ Ok (value, next)
      → instruction_at e bytes at ≡ Ok (AdvancePc value, next)
  unfolding standard_at
  pc-read value next is known operand =
      standard-read 2 is known (λ h. omega (arith, h)) ∙ rw operand refl

  pub file-read : (value next : ℕ) → slice_index bytes at ≡ 4 → 4 < e.opcode_base
      → uleb_at bytes (at + 1) ≡ Ok (value, next)
      → instruction_at e bytes at ≡ Ok (SetFile value, next)
  unfolding standard_at
  file-read value next is known operand =
      standard-read 4 is known (λ h. omega (arith, h)) ∙ rw operand refl
