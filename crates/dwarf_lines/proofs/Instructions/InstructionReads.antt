-- An encoded instruction is read.
use Rattle.std.proofs.Common.{◌≡◌, ◌≢◌, ℕ, suc, ◌+◌, ◌-◌, ◌<◌, ◌≤◌, true, false, List, [], ◌∷◌}
use Rattle.std.proofs.Common.{◌++◌, length, Ok, refl, sym, ◌∙◌, subst, arith, eq-eqb}
use Rattle.std.specs.Prelude.{nat_le, slice_index}
use Rattle.std.proofs.lemmas.Bool.Decides.{nat_tests}
use Rattle.dwarf_bytes.specs.Numbers.{IsUleb, IsSleb, IsEncodedAt, little_endian, block_at, u8_at}
use Rattle.dwarf_bytes.specs.Numbers.{u16_at, uleb_at}
use Rattle.dwarf_bytes.proofs.Numbers.LebEncodings.{uleb-again, sleb-again}
use Rattle.dwarf_lines.specs.declared.instruction.Instruction.{Instruction}
use Rattle.dwarf_lines.specs.declared.instruction.Instruction.TheVariants.{SetAddress, EndSequence}
use Rattle.dwarf_lines.specs.declared.instruction.Instruction.TheVariants.{Special, Skipped}
use Rattle.dwarf_lines.specs.Instructions.{Encoding, after_ulebs, extended_of, extended_at}
use Rattle.dwarf_lines.specs.Instructions.{standard_at, instruction_at}
use Rattle.dwarf_lines.specs.Encodings.{IsPassedOver, Encodes, copy, advance_pc, advance_line}
use Rattle.dwarf_lines.specs.Encodings.{set_file, const_add_pc, fixed_advance_pc, passed_over}
use Rattle.dwarf_lines.specs.Encodings.{special, end_sequence, set_address, other_extended}
use Rattle.dwarf_lines.proofs.Lists.Spans.{Stretch, stretch-of, encoded-of, first_of, rest-of}
use Rattle.dwarf_lines.proofs.Lists.Spans.{block-again, fixed-again, byte-again}
use Rattle.dwarf_lines.proofs.Instructions.OperandEncodings.{is-not, ulebs-again}

not-from : (base opcode : ℕ) → opcode < base → nat_le base opcode ≡ false
not-from base opcode h = grind (arith, nat_tests)

from-on : (base opcode : ℕ) → base ≤ opcode → nat_le base opcode ≡ true
from-on base opcode h = grind (arith, nat_tests)

module _ (e : Encoding) (bytes : List ℕ) (at : ℕ) where
  pub standard_is : (opcode place : ℕ) → u8_at bytes at ≡ Ok (opcode, place)
      → opcode < e.opcode_base → opcode ≢ 0
      → instruction_at e bytes at ≡ standard_at e opcode bytes place
  unfolding instruction_at
  standard_is opcode place byte known some =
      rw (byte, not-from e.opcode_base opcode known, is-not opcode 0 some) refl

  extended_is : (place : ℕ) → u8_at bytes at ≡ Ok (0, place) → 0 < e.opcode_base
      → instruction_at e bytes at ≡ extended_at bytes place
  unfolding instruction_at
  extended_is place byte known = rw (byte, not-from e.opcode_base 0 known) refl

  body_is : (place len mid next : ℕ) (body : List ℕ) (i : Instruction)
      → uleb_at bytes place ≡ Ok (len, mid) → len ≢ 0
      → block_at len bytes mid ≡ Ok (body, next) → extended_of body ≡ Ok i
      → extended_at bytes place ≡ Ok (i, next)
  unfolding extended_at
  body_is place len mid next body i len_is some block_is instruction_is =
      rw (len_is, is-not len 0 some, block_is, instruction_is) refl

  extended_again : (next len : ℕ) (length_bytes body : List ℕ) (i : Instruction) → 0 < e.opcode_base
      → Stretch bytes at (0 ∷ (length_bytes ++ body)) next → IsUleb length_bytes len
      → len ≡ length body → 0 < length body
      → extended_of body ≡ Ok i
      → instruction_at e bytes at ≡ Ok (i, next)
  extended_again next len length_bytes body i known there len_is same some instruction_is =
      let opcode = first_of bytes at (0 ∷ []) (length_bytes ++ body) next there in
      let behind = rest-of bytes at (0 ∷ []) (length_bytes ++ body) next there in
      let place : ℕ = at + length {A = ℕ} (0 ∷ []) in
      let mid : ℕ = place + length length_bytes in
      let operand = uleb-again bytes place len mid
      (encoded-of IsUleb bytes place len mid length_bytes
      (first_of bytes place length_bytes body next behind) len_is) in
      let block = block-again bytes mid body next some
      (rest-of bytes place length_bytes body next behind) in
      extended_is place (byte-again bytes at 0 place opcode) known
      ∙ body_is place len mid next body i operand (λ zero_is. omega (arith, same, zero_is, some))
      (subst (λ (n : ℕ). block_at n bytes mid ≡ Ok (body, next)) (sym same) block)
      instruction_is

  passed_is : (opcode place next : ℕ) → IsPassedOver opcode
      → after_ulebs (slice_index e.opcode_lengths (opcode - 1)) bytes place ≡ Ok next
      → standard_at e opcode bytes place ≡ Ok (Skipped, next)
  unfolding standard_at
  passed_is opcode place next h operands =
      rw (
        is-not opcode 1 h.1,
        is-not opcode 2 h.2,
        is-not opcode 3 h.3,
        is-not opcode 4 h.4,
        is-not opcode 8 h.5,
        is-not opcode 9 h.6,
        operands,
      ) refl

  pub special_is : (adjusted next : ℕ) → u8_at bytes at ≡ Ok (adjusted + e.opcode_base, next)
      → instruction_at e bytes at ≡ Ok (Special adjusted, next)
  unfolding instruction_at
  special_is adjusted next byte =
      let back : (adjusted + e.opcode_base) - e.opcode_base ≡ adjusted = omega arith in
      rw (byte, from-on e.opcode_base (adjusted + e.opcode_base) (omega arith), back) refl

  address-is : (address : List ℕ) → length address ≡ 8
      → extended_of (2 ∷ address) ≡ Ok (SetAddress (little_endian address))
  unfolding extended_of
  address-is address h = let nine : length (2 ∷ address) ≡ 9 = omega (arith, h) in
      rw (eq-eqb (length (2 ∷ address)) 9 nine) refl

  other_is : (opcode : ℕ) (operands : List ℕ) → opcode ≢ 1 → opcode ≢ 2
      → extended_of (opcode ∷ operands) ≡ Ok Skipped
  unfolding extended_of
  other_is opcode operands not1 not2 = rw (is-not opcode 1 not1, is-not opcode 2 not2) refl

  -- the opcode at the start of a range, and the bytes after it
  opcode_of : (opcode : ℕ) (operand : List ℕ) (next : ℕ) → Stretch bytes at (opcode ∷ operand) next
      → (u8_at bytes at ≡ Ok (opcode, at + length {A = ℕ} (opcode ∷ [])))
      × Stretch bytes (at + length {A = ℕ} (opcode ∷ [])) operand next
  opcode_of opcode operand next there = (
    byte-again bytes at opcode (at + length {A = ℕ} (opcode ∷ []))
        (first_of bytes at (opcode ∷ []) operand next there),
    rest-of bytes at (opcode ∷ [])
        operand next there,
  )

  again : (next : ℕ) (front : List ℕ) (i : Instruction) → 0 < e.opcode_base
      → Stretch bytes at front next → Encodes e front i
      → instruction_at e bytes at ≡ Ok (i, next)
  unfolding standard_at extended_of
  again next front i some there (copy known) =
      standard_is 1 next (byte-again bytes at 1 next there) known (λ h. omega (arith, h)) ∙ refl
  again next front i some there (advance_pc {operand = operand} n known is) =
      let p = opcode_of 2 operand next there in
      let place : ℕ = at + length {A = ℕ} (2 ∷ []) in
      let value = uleb-again bytes place n next
      (encoded-of IsUleb bytes place n next operand p.1 is) in
      standard_is 2 place p.0 known (λ h. omega (arith, h)) ∙ rw value refl
  again next front i some there (advance_line {operand = operand} z known is) =
      let p = opcode_of 3 operand next there in
      let place : ℕ = at + length {A = ℕ} (3 ∷ []) in
      let value = sleb-again bytes place z next
      (encoded-of IsSleb bytes place z next operand p.1 is) in
      standard_is 3 place p.0 known (λ h. omega (arith, h)) ∙ rw value refl
  again next front i some there (set_file {operand = operand} n known is) =
      let p = opcode_of 4 operand next there in
      let place : ℕ = at + length {A = ℕ} (4 ∷ []) in
      let value = uleb-again bytes place n next
      (encoded-of IsUleb bytes place n next operand p.1 is) in
      standard_is 4 place p.0 known (λ h. omega (arith, h)) ∙ rw value refl
  again next front i some there (const_add_pc known) =
      standard_is 8 next (byte-again bytes at 8 next there) known (λ h. omega (arith, h)) ∙ refl
  again next front i some there (fixed_advance_pc low high known) =
      let p = opcode_of 9 (low ∷ high ∷ []) next there in
      let place : ℕ = at + length {A = ℕ} (9 ∷ []) in
      let value : u16_at bytes place ≡ Ok (little_endian (low ∷ high ∷ []), next) =
      fixed-again bytes place (low ∷ high ∷ []) next (omega arith) p.1 in
      standard_is 9 place p.0 known (λ h. omega (arith, h)) ∙ rw value refl
  again next front i some there (passed_over {operands = operands} opcode known over are) =
      let p = opcode_of opcode operands next there in
      let place : ℕ = at + length {A = ℕ} (opcode ∷ []) in
      standard_is opcode place p.0 known (λ h. let positive = over.0 in omega (arith, h, positive))
      ∙ passed_is opcode place next over
      (ulebs-again (slice_index e.opcode_lengths (opcode - 1)) operands bytes place next are
      p.1)
  again next front i some there (special adjusted) =
      special_is adjusted next (byte-again bytes at (adjusted + e.opcode_base) next there)
  again next front i some there (end_sequence len is) =
      extended_again next 1 len (1 ∷ []) EndSequence some there is refl (omega arith) refl
  again next front i some there (set_address len address is eight) =
      extended_again next 9 len (2 ∷ address) (SetAddress (little_endian address)) some there is
      (omega (arith, eight)) (omega arith) (address-is address eight)
  again next front i some there (other_extended len opcode operands not1 not2 is) =
      extended_again next (suc (length operands)) len (opcode ∷ operands) Skipped some there is
      (omega arith) (omega arith) (other_is opcode operands not1 not2)

  -- an instruction whose encoding is at the offset is read
  pub instruction_again : (i : Instruction) (next : ℕ) → 0 < e.opcode_base
      → IsEncodedAt (Encodes e) bytes at i next
      → instruction_at e bytes at ≡ Ok (i, next)
  instruction_again i next some h = again next h.front i some
      (stretch-of (Encodes e) bytes at i next h) h.encoded
