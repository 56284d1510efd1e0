-- The encoding of the header fields on instructions, in both directions.
use Rattle.std.proofs.Common.{◌≡◌, ℕ, ◌+◌, ◌-◌, ◌<◌, ◌≤◌, List, [], ◌∷◌, length, take, drop, Bool}
use Rattle.std.proofs.Common.{true, false, not, ◌==◌, Ok, refl, sym, ap, ◌∙◌, subst, arith}
use Rattle.std.proofs.Common.{length-append, length-drop}
use Rattle.std.proofs.Math.Seq.{take-append_seam}
use Rattle.dwarf_bytes.specs.declared.fault.Cause.{Cause}
use Rattle.dwarf_bytes.specs.declared.fault.Cause.TheVariants as causes
use Rattle.dwarf_bytes.specs.Items.{reading}
use Rattle.dwarf_bytes.specs.Numbers.{IsEncodedAt, block_at, u8_at}
use Rattle.dwarf_bytes.proofs.Numbers.Advance.{after-bind, after-test, reading-ok}
use Rattle.dwarf_bytes.proofs.Numbers.AtOffsets.{block-of}
use Rattle.dwarf_lines.specs.Instructions.{Encoding}
use Rattle.dwarf_lines.specs.Headers.{are_standard, lengths_at, signed_byte, encoding_at}
use Rattle.dwarf_lines.specs.HeaderEncodings.{EncodesParameters}
use Rattle.dwarf_lines.proofs.Headers.BoundsLaws.{ok-is}
use Rattle.dwarf_lines.proofs.Instructions.OperandEncodings.{eqb-eq, differs, is-not}
use Rattle.dwarf_lines.proofs.Lists.Spans.{Stretch, stretch-of, encoded-of, join, first_of, rest-of}
use Rattle.dwarf_lines.proofs.Lists.Spans.{block-encoded, byte-encoded, byte-again}

-- a test that did not refuse
pub passed : (b : Bool) → not b ≡ false → b ≡ true
passed true h = refl
passed false h = absurd cc

-- a number that a test requires
pub asked-for : (a b : ℕ) → not (a == b) ≡ false → a ≡ b
asked-for a b h = eqb-eq a b (passed (a == b) h)

-- a nonempty range ends within the bytes
pub front-within : (bytes : List ℕ) (at : ℕ) (front : List ℕ) (next : ℕ) → 0 < length front
    → Stretch bytes at front next → next ≤ length bytes
front-within bytes at front next some there = omega (
  arith,
  some,
  there.next_is,
  length-drop at bytes,
  ap length there.parts,
  length-append front (drop next bytes),
)

module _ (bytes : List ℕ) where
  lengths_encoded : (count at : ℕ) (read : List ℕ × ℕ) → lengths_at count bytes at ≡ Ok read
      → Stretch bytes at read.0 read.1 × (length read.0 ≡ count) × (are_standard read.0 ≡ true)
  unfolding lengths_at
  lengths_encoded count at read h =
      after-test (not (are_standard (take count (drop at bytes)))) causes.OpcodeLengths _ read h
      (Stretch bytes at read.0 read.1 × (length read.0 ≡ count) × (are_standard read.0 ≡ true))
      (λ test h1.
      let block = block-encoded count bytes at read (reading-ok (block_at count bytes at) read h1)
      in
      let front : take count (drop at bytes) ≡ read.0 =
      ap (λ (n : ℕ). take n (drop at bytes)) (sym block.1)
      ∙ (ap (take (length read.0)) block.0.parts ∙ take-append_seam read.0 (drop read.1 bytes))
      in (
        block.0,
        block.1,
        subst (λ (lengths : List ℕ). are_standard lengths ≡ true) front
            (passed (are_standard (take count (drop at bytes))) test),
      ))

  lengths_again : (count at : ℕ) (lengths : List ℕ) (next : ℕ) → at ≤ length bytes
      → Stretch bytes at lengths next → length lengths ≡ count
      → are_standard lengths ≡ true → lengths_at count bytes at ≡ Ok (lengths, next)
  unfolding lengths_at
  lengths_again count at lengths next within there size standard =
      let front : take count (drop at bytes) ≡ lengths =
      ap (λ (n : ℕ). take n (drop at bytes)) (sym size)
      ∙ (ap (take (length lengths)) there.parts ∙ take-append_seam lengths (drop next bytes)) in
      let block : block_at count bytes at ≡ Ok (lengths, next) =
      ap (λ (n : ℕ). block_at n bytes at) (sym size)
      ∙ (block-of bytes at lengths (drop next bytes) within there.parts
      ∙ ap (λ (n : ℕ). Ok (lengths, n)) (sym there.next_is)) in
      rw (front, standard, block) refl

  pub encoding-encoded : (at : ℕ) (e : Encoding) (next : ℕ) → encoding_at bytes at ≡ Ok (e, next)
      → IsEncodedAt EncodesParameters bytes at e next
  unfolding encoding_at
  encoding-encoded at e next h =
      let P : Type 0 = IsEncodedAt EncodesParameters bytes at e next in
      after-bind (reading (u8_at bytes at)) _ (e, next) h P (λ minimum minimum_is h1.
      after-bind (reading (u8_at bytes minimum.1)) _ (e, next) h1 P (λ operations operations_is h2.
      after-test (not (operations.0 == 1)) causes.LineParams _ (e, next) h2 P (λ one h3.
      after-bind (reading (u8_at bytes operations.1)) _ (e, next) h3 P (λ is_stmt is_stmt_is h4.
      after-bind (reading (u8_at bytes is_stmt.1)) _ (e, next) h4 P (λ base base_is h5.
      after-bind (reading (u8_at bytes base.1)) _ (e, next) h5 P (λ range range_is h6.
      after-test (range.0 == 0) causes.LineParams _ (e, next) h6 P (λ some h7.
      after-bind (reading (u8_at bytes range.1)) _ (e, next) h7 P (λ opcode_base opcode_base_is h8.
      after-test (opcode_base.0 == 0) causes.LineParams _ (e, next) h8 P (λ any h9.
      after-bind (lengths_at (opcode_base.0 - 1) bytes opcode_base.1) _ (e, next) h9 P
      (λ lengths lengths_are h10.
      let b0 = byte-encoded bytes at minimum (reading-ok (u8_at bytes at) minimum minimum_is) in
      let b1 = byte-encoded bytes minimum.1 operations
      (reading-ok (u8_at bytes minimum.1) operations operations_is) in
      let b2 = byte-encoded bytes operations.1 is_stmt
      (reading-ok (u8_at bytes operations.1) is_stmt is_stmt_is) in
      let b3 = byte-encoded bytes is_stmt.1 base (reading-ok (u8_at bytes is_stmt.1) base base_is)
      in
      let b4 = byte-encoded bytes base.1 range (reading-ok (u8_at bytes base.1) range range_is) in
      let b5 = byte-encoded bytes range.1 opcode_base
      (reading-ok (u8_at bytes range.1) opcode_base opcode_base_is) in
      let b6 = lengths_encoded (opcode_base.0 - 1) opcode_base.1 lengths lengths_are in
      let s5 = join bytes range.1 (opcode_base.0 ∷ []) opcode_base.1 lengths.0 lengths.1 b5 b6.0 in
      let s4 = join bytes base.1 (range.0 ∷ []) range.1 (opcode_base.0 ∷ lengths.0) lengths.1 b4
      s5 in
      let s3 = join bytes is_stmt.1 (base.0 ∷ []) base.1 (range.0 ∷ opcode_base.0 ∷ lengths.0)
      lengths.1 b3 s4 in
      let s2 = join bytes operations.1 (is_stmt.0 ∷ []) is_stmt.1
      (base.0 ∷ range.0 ∷ opcode_base.0 ∷ lengths.0) lengths.1 b2 s3 in
      let s1 = join bytes minimum.1 (operations.0 ∷ []) operations.1
      (is_stmt.0 ∷ base.0 ∷ range.0 ∷ opcode_base.0 ∷ lengths.0) lengths.1 b1 s2 in
      let s0 = join bytes at (minimum.0 ∷ []) minimum.1
      (operations.0 ∷ is_stmt.0 ∷ base.0 ∷ range.0 ∷ opcode_base.0 ∷ lengths.0) lengths.1 b0
      s1 in
      let it : Encoding = record {
        minimum_length = minimum.0;
        line_base = signed_byte base.0;
        line_range = range.0;
        opcode_base = opcode_base.0;
        opcode_lengths = lengths.0;
      } in
      let encoded : EncodesParameters (minimum.0 ∷ operations.0 ∷ is_stmt.0 ∷ base.0 ∷ range.0
      ∷ opcode_base.0 ∷ lengths.0) it = record {
        default_is_stmt = is_stmt.0;
        line_base = base.0;
        whole = ap (λ (n : ℕ). minimum.0 ∷ n ∷ is_stmt.0 ∷ base.0 ∷ range.0 ∷ opcode_base.0
            ∷ lengths.0) (asked-for operations.0 1 one);
        base_is = refl;
        range = differs range.0 0 some;
        lengths = let nonzero = differs opcode_base.0 0 any in omega (arith, nonzero, b6.1);
        standard = b6.2;
      } in
      subst (λ (p : Encoding × ℕ). IsEncodedAt EncodesParameters bytes at p.0 p.1)
      (ok-is {E = Cause} (it, lengths.1) (e, next) h10)
      (encoded-of EncodesParameters bytes at it lengths.1
      (minimum.0 ∷ operations.0 ∷ is_stmt.0 ∷ base.0 ∷ range.0 ∷ opcode_base.0 ∷ lengths.0) s0
      encoded)))))))))))

  -- the first byte of a range, and the bytes after it
  byte_first : (at byte : ℕ) (rest : List ℕ) (next : ℕ) → Stretch bytes at (byte ∷ rest) next
      → (u8_at bytes at ≡ Ok (byte, at + length {A = ℕ} (byte ∷ [])))
      × Stretch bytes (at + length {A = ℕ} (byte ∷ [])) rest next
  byte_first at byte rest next there = (
    byte-again bytes at byte (at + length {A = ℕ} (byte ∷ []))
        (first_of bytes at (byte ∷ []) rest next there),
    rest-of bytes at (byte ∷ []) rest next there,
  )

  pub encoding_again : (at : ℕ) (e : Encoding) (next : ℕ) → IsEncodedAt EncodesParameters bytes
      at e next
      → encoding_at bytes at ≡ Ok (e, next)
  unfolding encoding_at
  encoding_again at e next h =
      let t = h.encoded in
      let all = subst (λ (b : List ℕ). Stretch bytes at b next) t.whole
      (stretch-of EncodesParameters bytes at e next h) in
      let b0 = byte_first at e.minimum_length
      (1 ∷ t.default_is_stmt ∷ t.line_base ∷ e.line_range ∷ e.opcode_base ∷ e.opcode_lengths)
      next all in
      let b1 = byte_first (at + 1) 1 (t.default_is_stmt ∷ t.line_base ∷ e.line_range ∷ e.opcode_base
      ∷ e.opcode_lengths) next b0.1 in
      let b2 = byte_first (at + 1 + 1) t.default_is_stmt
      (t.line_base ∷ e.line_range ∷ e.opcode_base ∷ e.opcode_lengths) next b1.1 in
      let b3 = byte_first (at + 1 + 1 + 1) t.line_base
      (e.line_range ∷ e.opcode_base ∷ e.opcode_lengths) next b2.1 in
      let b4 = byte_first (at + 1 + 1 + 1 + 1) e.line_range (e.opcode_base ∷ e.opcode_lengths) next
      b3.1 in
      let b5 = byte_first (at + 1 + 1 + 1 + 1 + 1) e.opcode_base e.opcode_lengths next b4.1 in
      let start : ℕ = at + 1 + 1 + 1 + 1 + 1 + 1 in
      let within : start ≤ length bytes =
      front-within bytes (at + 1 + 1 + 1 + 1 + 1) (e.opcode_base ∷ []) start (omega arith)
      (first_of bytes (at + 1 + 1 + 1 + 1 + 1) (e.opcode_base ∷ []) e.opcode_lengths next b4.1)
      in
      let lengths = lengths_again (e.opcode_base - 1) start e.opcode_lengths next within b5.1
      (omega (arith, t.lengths)) t.standard in
      rw (
        b0.0,
        b1.0,
        b2.0,
        b3.0,
        b4.0,
        is-not e.line_range 0 t.range,
        b5.0,
        is-not e.opcode_base 0 (λ zero_is. omega (arith, t.lengths, zero_is)),
        lengths,
        ← t.base_is,
      ) refl
