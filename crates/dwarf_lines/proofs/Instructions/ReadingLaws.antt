-- A reading without a fault corresponds to an encoding of all bytes, in both directions.
use Rattle.std.proofs.Common.{◌≡◌, ℕ, zero, suc, ◌+◌, ◌-◌, ◌<◌, ◌≤◌, List, [], ◌∷◌, ◌++◌, length}
use Rattle.std.proofs.Common.{drop, Result, Ok, Err, Some, None, refl, sym, ap, subst, arith}
use Rattle.std.specs.Prelude.{Option, nat_lt}
use Rattle.std.proofs.lemmas.List.{drop_all, length-append, length-drop}
use Rattle.std.proofs.lemmas.Bool.{lt-ltb, le-ltb, ltb-false}
use Rattle.dwarf_bytes.specs.declared.fault.Cause.{Cause}
use Rattle.dwarf_bytes.proofs.Numbers.Advance.{chosen}
use Rattle.dwarf_lines.specs.declared.instruction.Instruction.{Instruction}
use Rattle.dwarf_lines.specs.Instructions.{Encoding, Reading, no_more, read_on, instruction_at}
use Rattle.dwarf_lines.specs.Instructions.{reading_from, reading_of}
use Rattle.dwarf_lines.specs.Encodings.{Encodes, copy, advance_pc, advance_line, set_file}
use Rattle.dwarf_lines.specs.Encodings.{const_add_pc, fixed_advance_pc, passed_over, special}
use Rattle.dwarf_lines.specs.Encodings.{end_sequence, set_address, other_extended, AreEncoded}
use Rattle.dwarf_lines.specs.Encodings.{no_instruction, and_then}
use Rattle.dwarf_lines.proofs.Lists.Spans.{stretch, stretch-of, encoded-of, rest-is}
use Rattle.dwarf_lines.proofs.Instructions.EncodingLaws.{instruction_encoded}
use Rattle.dwarf_lines.proofs.Instructions.InstructionReads.{instruction_again}

-- a reading without a fault
abbrev pub valid : List Instruction → Reading
valid is = record { instructions = is; fault = None }

-- each instruction has at least its opcode
encoded-some : (e : Encoding) (front : List ℕ) (i : Instruction) → Encodes e front i
    → 0 < length front
encoded-some e front i (copy known) = omega arith
encoded-some e front i (advance_pc n known is) = omega arith
encoded-some e front i (advance_line z known is) = omega arith
encoded-some e front i (set_file n known is) = omega arith
encoded-some e front i (const_add_pc known) = omega arith
encoded-some e front i (fixed_advance_pc low high known) = omega arith
encoded-some e front i (passed_over opcode known over are) = omega arith
encoded-some e front i (special adjusted) = omega arith
encoded-some e front i (end_sequence len is) = omega arith
encoded-some e front i (set_address len address is eight) = omega arith
encoded-some e front i (other_extended len opcode operands not1 not2 is) = omega arith

faulty : (cause : Cause) → (let f : Cause → Option Cause = λ c. Some c in f cause ≡ None) → ⊥
faulty cause h = cc

module _ (e : Encoding) (bytes : List ℕ) where
  ended : (at : ℕ) (is : List Instruction) → length bytes ≤ at → no_more None ≡ valid is
      → AreEncoded e (drop at bytes) is
  ended at is le h =
      let none : [] ≡ is = ap (λ (r : Reading). r.instructions) h in
      subst (λ (list : List Instruction). AreEncoded e (drop at bytes) list) none
      (rw (drop_all at bytes le) no_instruction)

  reading_spelled : (steps at : ℕ) (is : List Instruction) → length bytes ≤ steps + at
      → reading_from steps e bytes at ≡ valid is
      → AreEncoded e (drop at bytes) is
  unfolding reading_from
  reading_spelled zero at is enough h = ended at is (omega arith) h
  reading_spelled (suc steps) at is enough h =
      chosen (nat_lt at (length bytes)) (read_on (instruction_at e bytes at)
      (reading_from steps e bytes)) (no_more None) (valid is) h (AreEncoded e (drop at bytes) is)
      (λ inside h1. by_instruction (instruction_at e bytes at) refl h1 (reading_spelled steps))
      (λ outside h1. ended at is (ltb-false at (length bytes) outside) h1)
    where
      by_instruction : (found : Result (Instruction × ℕ) Cause) → instruction_at e bytes at ≡ found
          → read_on found (reading_from steps e bytes) ≡ valid is
          → ((next : ℕ) (rest : List Instruction) → length bytes ≤ steps + next
          → reading_from steps e bytes next ≡ valid rest → AreEncoded e (drop next bytes) rest)
          → AreEncoded e (drop at bytes) is
      by_instruction (Err cause) found h1 further =
          absurd (faulty cause (ap (λ (r : Reading). r.fault) h1))
      by_instruction (Ok read) found h1 further =
          let i = read.0 in
          let next = read.1 in
          let rest : Reading = reading_from steps e bytes next in
          let same : i ∷ rest.instructions ≡ is = ap (λ (r : Reading). r.instructions) h1 in
          let fault : rest.fault ≡ None = ap (λ (r : Reading). r.fault) h1 in
          let clean : rest ≡ valid rest.instructions =
          ap (λ (f : Option Cause). record { instructions = rest.instructions; fault = f })
          fault in
          let is_encoded = instruction_encoded e bytes at i next found in
          let there = stretch-of (Encodes e) bytes at i next is_encoded in
          let some = encoded-some e is_encoded.front i is_encoded.encoded in
          let last = there.next_is in
          let others = further next rest.instructions (omega (arith, last, some)) clean in
          subst (λ (list : List Instruction). AreEncoded e (drop at bytes) list) same
          (subst (λ (b : List ℕ). AreEncoded e b (i ∷ rest.instructions)) (sym there.parts)
          (and_then is_encoded.front i is_encoded.encoded others))

  spelled_read : (steps at : ℕ) (stretch_bytes : List ℕ) (is : List Instruction) → 0 < e.opcode_base
      → AreEncoded e stretch_bytes is
      → drop at bytes ≡ stretch_bytes → length bytes ≤ steps + at
      → reading_from steps e bytes at ≡ valid is
  unfolding reading_from
  spelled_read zero at all is known no_instruction there enough = refl
  spelled_read (suc steps) at all is known no_instruction there enough =
      let rest = length-drop at bytes in
      let none : length (drop at bytes) ≡ 0 = ap length there in
      rw (le-ltb at (length bytes) (omega (arith, rest, none))) refl
  spelled_read zero at all is known (and_then {rest = rest} front i encoded others) there enough =
      let some = encoded-some e front i encoded in
      let left = length-drop at bytes in
      let sum = length-append front rest in
      let whole : length (drop at bytes) ≡ length (front ++ rest) = ap length there in
      absurd (omega (arith, some, left, sum, whole))
  spelled_read (suc steps) at all is known (and_then {rest = rest} front i encoded others) there
      enough =
      let some = encoded-some e front i encoded in
      let left = length-drop at bytes in
      let sum = length-append front rest in
      let whole : length (drop at bytes) ≡ length (front ++ rest) = ap length there in
      let inside : at < length bytes = omega (arith, some, left, sum, whole) in
      let next : ℕ = at + length front in
      let here = instruction_again e bytes at i next known
      (encoded-of (Encodes e) bytes at i next front (stretch bytes at front rest next there refl)
      encoded) in
      rw (
        lt-ltb at (length bytes) inside,
        here,
        spelled_read steps next rest _ known others
            (sym (rest-is bytes at front rest there)) (omega (arith, some)),
      ) refl

  pub reading_is_encoded : (at : ℕ) (is : List Instruction) → at ≤ length bytes
      → reading_of e bytes at ≡ valid is
      → AreEncoded e (drop at bytes) is
  reading_is_encoded at is le h = reading_spelled (length bytes - at) at is (omega arith) h

  pub spelled_is_read : (at : ℕ) (is : List Instruction) → 0 < e.opcode_base → at ≤ length bytes
      → AreEncoded e (drop at bytes) is
      → reading_of e bytes at ≡ valid is
  spelled_is_read at is known le h = spelled_read (length bytes - at) at (drop at bytes) is known h
      refl (omega arith)
