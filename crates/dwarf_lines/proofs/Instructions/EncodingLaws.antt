-- An instruction that is read has an encoding in the bytes.
use Rattle.std.proofs.Common.{◌≡◌, ℕ, suc, ◌+◌, ◌-◌, ◌<◌, ◌==◌, List, [], ◌∷◌, ◌++◌, length, Result}
use Rattle.std.proofs.Common.{Ok, refl, sym, ap, ◌∙◌, subst, arith}
use Rattle.std.specs.Prelude.{nat_le, slice_index}
use Rattle.std.proofs.lemmas.Bool.Decides.{nat_tests}
use Rattle.dwarf_bytes.specs.declared.fault.Cause.{Cause}
use Rattle.dwarf_bytes.specs.Items.{reading}
use Rattle.dwarf_bytes.specs.Numbers.{IsUleb, IsSleb, IsEncodedAt, little_endian, block_at, u8_at}
use Rattle.dwarf_bytes.specs.Numbers.{u16_at, uleb_at, sleb_at}
use Rattle.dwarf_bytes.proofs.Numbers.Advance.{after-bind, chosen, reading-ok}
use Rattle.dwarf_bytes.proofs.Numbers.LebEncodings.{uleb-encoded, sleb-encoded}
use Rattle.dwarf_lines.specs.declared.instruction.Instruction.{Instruction}
use Rattle.dwarf_lines.specs.declared.instruction.Instruction.TheVariants.{Copy, AdvancePc}
use Rattle.dwarf_lines.specs.declared.instruction.Instruction.TheVariants.{AdvanceLine, SetFile}
use Rattle.dwarf_lines.specs.declared.instruction.Instruction.TheVariants.{ConstAddPc}
use Rattle.dwarf_lines.specs.declared.instruction.Instruction.TheVariants.{FixedAdvancePc}
use Rattle.dwarf_lines.specs.declared.instruction.Instruction.TheVariants.{SetAddress, EndSequence}
use Rattle.dwarf_lines.specs.declared.instruction.Instruction.TheVariants.{Special, Skipped}
use Rattle.dwarf_lines.specs.Instructions.{Encoding, after_ulebs, extended_of, extended_at}
use Rattle.dwarf_lines.specs.Instructions.{standard_at, instruction_at}
use Rattle.dwarf_lines.specs.Encodings.{Encodes, copy, advance_pc, advance_line, set_file}
use Rattle.dwarf_lines.specs.Encodings.{const_add_pc, fixed_advance_pc, passed_over, special}
use Rattle.dwarf_lines.specs.Encodings.{end_sequence, set_address, other_extended}
use Rattle.dwarf_lines.proofs.Headers.BoundsLaws.{ok-is}
use Rattle.dwarf_lines.proofs.Lists.Spans.{Stretch, stretch-of, encoded-of, join, block-encoded}
use Rattle.dwarf_lines.proofs.Lists.Spans.{two-bytes, fixed-encoded, byte-encoded}
use Rattle.dwarf_lines.proofs.Instructions.OperandEncodings.{eqb-eq, differs, ulebs-encoded}

module _ (e : Encoding) (bytes : List ℕ) (at : ℕ) where
  abbrev ReadsAreEncoded : Instruction → ℕ → Type 0
  ReadsAreEncoded i next = IsEncodedAt (Encodes e) bytes at i next

  -- a pair that is read is the one given
  is_read : (j i : Instruction) (after next : ℕ)
      → (let f : Instruction × ℕ → Result (Instruction × ℕ) Cause = λ z. Ok z in
      f (j, after) ≡ f (i, next)) → ReadsAreEncoded j after → ReadsAreEncoded i next
  is_read j i after next h is_encoded = subst (λ (p : Instruction × ℕ). ReadsAreEncoded p.0 p.1)
      (ok-is {E = Cause} (j, after) (i, next) h) is_encoded

  module _ (opcode place : ℕ) (first : Stretch bytes at (opcode ∷ []) place) where
    behind : (operand : List ℕ) (next : ℕ) (i : Instruction) → Stretch bytes place operand next
        → Encodes e (opcode ∷ operand) i
        → ReadsAreEncoded i next
    behind operand next i there encoded =
        encoded-of (Encodes e) bytes at i next (opcode ∷ operand)
        (join bytes at (opcode ∷ []) place operand next first there) encoded

    alone : (i : Instruction) → Encodes e (opcode ∷ []) i → ReadsAreEncoded i place
    alone i encoded = encoded-of (Encodes e) bytes at i place (opcode ∷ []) first encoded

    standard_encoded : (i : Instruction) (next : ℕ) → 0 < opcode → opcode < e.opcode_base
        → standard_at e opcode bytes place ≡ Ok (i, next)
        → ReadsAreEncoded i next
    unfolding standard_at
    standard_encoded i next some known h =
        chosen (opcode == 1) _ _ (Ok (i, next)) h (ReadsAreEncoded i next)
        (λ is h1. is_read Copy i place next h1
        (alone Copy (let one = eqb-eq opcode 1 is in
        rw one (copy (subst (λ (n : ℕ). n < e.opcode_base) one known))))) (λ not1 h1.
        chosen (opcode == 2) _ _ (Ok (i, next)) h1 (ReadsAreEncoded i next)
        (λ is h2. after-bind (reading (uleb_at bytes place)) _ (i, next) h2 (ReadsAreEncoded i next)
        (λ v v_is h3.
        let operand = uleb-encoded bytes place v.0 v.1 (reading-ok (uleb_at bytes place) v v_is) in
        let two = eqb-eq opcode 2 is in
        is_read (AdvancePc v.0) i v.1 next h3
        (behind operand.front v.1 (AdvancePc v.0)
        (stretch-of IsUleb bytes place v.0 v.1 operand)
        (rw two (advance_pc v.0 (subst (λ (n : ℕ). n < e.opcode_base) two known)
        operand.encoded))))) (λ not2 h2.
        chosen (opcode == 3) _ _ (Ok (i, next)) h2 (ReadsAreEncoded i next)
        (λ is h3. after-bind (reading (sleb_at bytes place)) _ (i, next) h3 (ReadsAreEncoded i next)
        (λ v v_is h4.
        let operand = sleb-encoded bytes place v.0 v.1 (reading-ok (sleb_at bytes place) v v_is) in
        let three = eqb-eq opcode 3 is in
        is_read (AdvanceLine v.0) i v.1 next h4
        (behind operand.front v.1 (AdvanceLine v.0)
        (stretch-of IsSleb bytes place v.0 v.1 operand)
        (rw three (advance_line v.0 (subst (λ (n : ℕ). n < e.opcode_base) three known)
        operand.encoded))))) (λ not3 h3.
        chosen (opcode == 4) _ _ (Ok (i, next)) h3 (ReadsAreEncoded i next)
        (λ is h4. after-bind (reading (uleb_at bytes place)) _ (i, next) h4 (ReadsAreEncoded i next)
        (λ v v_is h5.
        let operand = uleb-encoded bytes place v.0 v.1 (reading-ok (uleb_at bytes place) v v_is) in
        let four = eqb-eq opcode 4 is in
        is_read (SetFile v.0) i v.1 next h5
        (behind operand.front v.1 (SetFile v.0) (stretch-of IsUleb bytes place v.0 v.1 operand)
        (rw four (set_file v.0 (subst (λ (n : ℕ). n < e.opcode_base) four known)
        operand.encoded))))) (λ not4 h4.
        chosen (opcode == 8) _ _ (Ok (i, next)) h4 (ReadsAreEncoded i next)
        (λ is h5. is_read ConstAddPc i place next h5
        (alone ConstAddPc (let eight = eqb-eq opcode 8 is in
        rw eight (const_add_pc (subst (λ (n : ℕ). n < e.opcode_base) eight known)))))
        (λ not8 h5.
        chosen (opcode == 9) _ _ (Ok (i, next)) h5 (ReadsAreEncoded i next)
        (λ is h6. after-bind (reading (u16_at bytes place)) _ (i, next) h6 (ReadsAreEncoded i next)
        (λ v v_is h7.
        let field = fixed-encoded 2 bytes place v (reading-ok (u16_at bytes place) v v_is) in
        let two = two-bytes field.0 field.2 in
        let nine = eqb-eq opcode 9 is in
        let value : little_endian (two.0 ∷ two.1 ∷ []) ≡ v.0 =
        ap little_endian (sym two.2) ∙ sym field.3 in
        is_read (FixedAdvancePc v.0) i v.1 next h7
        (behind (two.0 ∷ two.1 ∷ []) v.1 (FixedAdvancePc v.0)
        (subst (λ (b : List ℕ). Stretch bytes place b v.1) two.2 field.1)
        (subst (λ (n : ℕ). Encodes e (opcode ∷ two.0 ∷ two.1 ∷ []) (FixedAdvancePc n)) value
        (rw nine (fixed_advance_pc two.0 two.1
        (subst (λ (n : ℕ). n < e.opcode_base) nine known))))))) (λ not9 h6.
        after-bind (after_ulebs (slice_index e.opcode_lengths (opcode - 1)) bytes place) _ (i, next)
        h6 (ReadsAreEncoded i next) (λ after after_is h7.
        let operands = ulebs-encoded (slice_index e.opcode_lengths (opcode - 1)) bytes place after
        after_is in
        is_read Skipped i after next h7 (behind operands.0 after Skipped operands.2
        (passed_over opcode known (
          some,
          differs opcode 1 not1,
          differs opcode 2 not2,
          differs opcode 3 not3,
          differs opcode 4 not4,
          differs opcode 8 not8,
          differs opcode 9 not9,
        ) operands.1)))))))))

    -- the opcode and operands of an extended instruction
    body_encoded : (len : List ℕ) (mid : ℕ) (body : List ℕ) (last : ℕ) (i : Instruction) → opcode
        ≡ 0
        → IsUleb len (length body)
        → Stretch bytes place len mid → Stretch bytes mid body last → 0 < length body
        → extended_of body ≡ Ok i → ReadsAreEncoded i last
    unfolding extended_of
    body_encoded len mid [] last i zero_is len_is there body_there some h = absurd (omega arith)
    body_encoded len mid (o ∷ operands) last i zero_is len_is there body_there some h =
        let whole = join bytes place len mid (o ∷ operands) last there body_there in
        chosen (o == 1) _ _ (Ok i) h (ReadsAreEncoded i last)
        (λ one h1. chosen (length (o ∷ operands) == 1) _ _ (Ok i) h1 (ReadsAreEncoded i last)
        (λ single h2. let o_is = eqb-eq o 1 one in
        let no_more = nothing operands (eqb-eq (length (o ∷ operands)) 1 single) in
        let body_is : o ∷ operands ≡ 1 ∷ [] = ap (λ (n : ℕ). n ∷ operands) o_is
        ∙ ap (λ (r : List ℕ). 1 ∷ r) no_more in
        let encoded : Encodes e (opcode ∷ (len ++ 1 ∷ [])) EndSequence =
        rw zero_is (end_sequence len
        (subst (λ (n : ℕ). IsUleb len n) (ap length body_is) len_is)) in
        subst (λ (j : Instruction). ReadsAreEncoded j last) (ok-is {E = Cause} EndSequence i h2)
        (behind (len ++ 1 ∷ []) last EndSequence
        (subst (λ (b : List ℕ). Stretch bytes place (len ++ b) last) body_is whole) encoded))
        (λ _ h2. cc))
        (λ not1 h1. chosen (o == 2) _ _ (Ok i) h1 (ReadsAreEncoded i last)
        (λ two h2. chosen (length (o ∷ operands) == 9) _ _ (Ok i) h2 (ReadsAreEncoded i last)
        (λ nine h3. let o_is = eqb-eq o 2 two in
        let len9 = eqb-eq (length (o ∷ operands)) 9 nine in
        let encoded : Encodes e (opcode ∷ (len ++ 2 ∷ operands))
        (SetAddress (little_endian operands)) =
        rw zero_is (set_address len operands (subst (λ (n : ℕ). IsUleb len n) len9 len_is)
        (omega (arith, len9))) in
        subst (λ (j : Instruction). ReadsAreEncoded j last)
        (ok-is {E = Cause} (SetAddress (little_endian operands)) i h3)
        (behind (len ++ 2 ∷ operands) last (SetAddress (little_endian operands))
        (subst (λ (n : ℕ). Stretch bytes place (len ++ n ∷ operands) last) o_is whole) encoded))
        (λ _ h3. cc))
        (λ not2 h2. let encoded : Encodes e (opcode ∷ (len ++ o ∷ operands)) Skipped =
        rw zero_is (other_extended len o operands (differs o 1 not1) (differs o 2 not2)
        (subst (λ (n : ℕ). IsUleb len n) (omega arith) len_is)) in
        subst (λ (j : Instruction). ReadsAreEncoded j last) (ok-is {E = Cause} Skipped i h2)
        (behind (len ++ o ∷ operands) last Skipped whole encoded)))
      where
        nothing : (rest : List ℕ) → suc (length rest) ≡ 1 → rest ≡ []
        nothing [] h = refl
        nothing (b ∷ bs) h = absurd (omega (arith, h))

    extended_encoded : (i : Instruction) (next : ℕ) → opcode ≡ 0
        → extended_at bytes place ≡ Ok (i, next) → ReadsAreEncoded i next
    unfolding extended_at
    extended_encoded i next zero_is h =
        after-bind (reading (uleb_at bytes place)) _ (i, next) h (ReadsAreEncoded i next)
        (λ len len_is h1.
        chosen (len.0 == 0) _ _ (Ok (i, next)) h1 (ReadsAreEncoded i next) (λ _ h2. cc) (λ some h2.
        after-bind (reading (block_at len.0 bytes len.1)) _ (i, next) h2 (ReadsAreEncoded i next)
        (λ body body_is h3.
        after-bind (extended_of body.0) _ (i, next) h3 (ReadsAreEncoded i next) (λ j j_is h4.
        let length_there = uleb-encoded bytes place len.0 len.1
        (reading-ok (uleb_at bytes place) len len_is) in
        let body_there = block-encoded len.0 bytes len.1 body
        (reading-ok (block_at len.0 bytes len.1) body body_is) in
        let nonzero = differs len.0 0 some in
        is_read j i body.1 next h4 (body_encoded length_there.front len.1 body.0 body.1 j zero_is
        (subst (λ (n : ℕ). IsUleb length_there.front n) (sym body_there.1) length_there.encoded)
        (stretch-of IsUleb bytes place len.0 len.1 length_there) body_there.0
        (omega (arith, body_there.1, nonzero)) j_is)))))

  -- if an instruction is read, an encoding of it is at the offset
  pub instruction_encoded : (i : Instruction) (next : ℕ) → instruction_at e bytes at ≡ Ok (i, next)
      → ReadsAreEncoded i next
  unfolding instruction_at
  instruction_encoded i next h =
      after-bind (reading (u8_at bytes at)) _ (i, next) h (ReadsAreEncoded i next)
      (λ opcode opcode_is h1.
      let first = byte-encoded bytes at opcode (reading-ok (u8_at bytes at) opcode opcode_is) in
      chosen (nat_le e.opcode_base opcode.0) _ _ (Ok (i, next)) h1 (ReadsAreEncoded i next)
      (λ from h2. let back : (opcode.0 - e.opcode_base) + e.opcode_base ≡ opcode.0 =
      grind (arith, nat_tests) in
      is_read (Special (opcode.0 - e.opcode_base)) i opcode.1 next h2
      (alone opcode.0 opcode.1 first (Special (opcode.0 - e.opcode_base))
      (subst (λ (n : ℕ). Encodes e (n ∷ []) (Special (opcode.0 - e.opcode_base))) back
      (special (opcode.0 - e.opcode_base)))))
      (λ below h2. let known : opcode.0 < e.opcode_base = grind (arith, nat_tests) in
      chosen (opcode.0 == 0) _ _ (Ok (i, next)) h2 (ReadsAreEncoded i next)
      (λ zero_is h3. extended_encoded opcode.0 opcode.1 first i next (eqb-eq opcode.0 0 zero_is) h3)
      (λ some h3. let nonzero = differs opcode.0 0 some in
      standard_encoded opcode.0 opcode.1 first i next (omega (arith, nonzero)) known h3)))
