-- The encoding of the header at an offset.
use Rattle.std.proofs.Common.{◌≡◌, ℕ, ◌+◌, List, ◌∷◌, ◌++◌, length, take, Ok, refl, sym, ap, ◌∙◌}
use Rattle.std.proofs.Common.{subst, arith, length-append}
use Rattle.dwarf_bytes.specs.declared.fault.Cause.{Cause}
use Rattle.dwarf_bytes.specs.Numbers.{IsInitialLength, IsEncodedAt, IsFixed, offset_len}
use Rattle.dwarf_bytes.proofs.Numbers.Advance.{after-bind}
use Rattle.dwarf_lines.specs.declared.formats.EntryTable.TheVariants.{Directories, Files}
use Rattle.dwarf_lines.specs.declared.program_bounds.ProgramBounds.{ProgramBounds}
use Rattle.dwarf_lines.specs.Sections.{LineSections}
use Rattle.dwarf_lines.specs.Entries.{table_at}
use Rattle.dwarf_lines.specs.Headers.{LineHeader, bounds_at, encoding_at, header_at}
use Rattle.dwarf_lines.specs.HeaderEncodings.{EncodesFields, EncodesHeader}
use Rattle.dwarf_lines.proofs.Headers.BoundsLaws.{ok-is}
use Rattle.dwarf_lines.proofs.Lists.Spans.{Stretch, stretch-of, encoded-of, join, first_of, rest-of}
use Rattle.dwarf_lines.proofs.Headers.TableEncodings.{table_encoded}
use Rattle.dwarf_lines.proofs.Headers.ParameterEncodings.{front-within, encoding-encoded}
use Rattle.dwarf_lines.proofs.Headers.BoundsEncodings.{between, AreEncoded, bounds-encoded}
use Rattle.dwarf_lines.proofs.Headers.BoundsEncodings.{bounds-again}
use Rattle.dwarf_lines.proofs.Headers.HeaderEncodings.{fields_encoded, encoding_is, directories_are}
use Rattle.dwarf_lines.proofs.Headers.HeaderEncodings.{files_are}

module _ (s : LineSections) (place : ℕ) where
  -- a program, composed of its bounds and its fields
  program-encoded : (b : ProgramBounds) (header : LineHeader) → header.first ≡ b.first
      → header.past ≡ b.past → AreEncoded s.line place b
      → (fields : List ℕ) → Stretch s.line b.fields fields b.first
      → EncodesFields s b.format b.fields fields header
      → IsEncodedAt (EncodesHeader s place) s.line place header header.past
  program-encoded b header first_is past_is t fields there fields_are =
      let line = s.line in
      let head : List ℕ = 5 ∷ 0 ∷ 8 ∷ 0 ∷ t.header_length in
      let instructions = between line b.first b.past t.first t.past in
      let body = join line b.fields fields b.first instructions.0 b.past there instructions.1 in
      let unit = join line t.mid head b.fields (fields ++ instructions.0) b.past t.head_there
      body in
      let all = join line place t.unit_length t.mid (head ++ (fields ++ instructions.0)) b.past
      t.length_there unit in
      let unit_is : t.unit ≡ length (head ++ (fields ++ instructions.0)) =
      omega (arith, t.past_is, unit.next_is) in
      let counted_is : t.counted ≡ length fields = omega (arith, t.first_is, there.next_is) in
      let start : b.fields ≡ place + length t.unit_length + 4 + length t.header_length =
      omega (arith, t.length_there.next_is, t.head_there.next_is) in
      encoded-of (EncodesHeader s place) line place header header.past
      (t.unit_length ++ (head ++ (fields ++ instructions.0)))
      (subst (λ (n : ℕ). Stretch line place
      (t.unit_length ++ (head ++ (fields ++ instructions.0))) n) (sym past_is) all)
      (record {
        format = b.format;
        unit_length = t.unit_length;
        unit = head ++ (fields ++ instructions.0);
        header_length = t.header_length;
        fields = fields;
        instructions = instructions.0;
        whole = refl;
        unit_is = refl;
        unit_length_is = subst (λ (n : ℕ). IsInitialLength b.format t.unit_length n) unit_is
            t.unit_is;
        header_length_is = subst (λ (n : ℕ). IsFixed (offset_len b.format) t.header_length n)
            counted_is t.counted_is;
        fields_are = subst (λ (n : ℕ). EncodesFields s b.format n fields header) start fields_are;
        past_is = past_is ∙ all.next_is;
      })

  pub header_encoded : (header : LineHeader) → header_at s place ≡ Ok header
      → IsEncodedAt (EncodesHeader s place) s.line place header header.past
  unfolding header_at
  header_encoded header h =
      let P : Type 0 = IsEncodedAt (EncodesHeader s place) s.line place header header.past in
      after-bind (bounds_at s.line place) _ header h P (λ bounds bounds_is h1.
      after-bind (encoding_at (take bounds.first s.line) bounds.fields) _ header h1 P
      (λ encoding encoding_is h2.
      after-bind (table_at s bounds.format Directories (take bounds.first s.line) encoding.1) _
      header h2 P (λ directories directories_is h3.
      after-bind (table_at s bounds.format (Files (length directories.0)) (take bounds.first s.line)
      directories.1) _ header h3 P (λ files files_is h4.
      let all = take bounds.first s.line in
      let t = bounds-encoded s.line place bounds bounds_is in
      let it : LineHeader = record {
        encoding = encoding.0;
        directories = directories.0;
        files =
            files.0;
        first = bounds.first;
        past = bounds.past;
      } in
      let fields = fields_encoded s bounds.format bounds.fields it encoding.1 directories.1 files.1
      (omega (arith, t.first, t.past))
      (encoding-encoded all bounds.fields encoding.0 encoding.1 encoding_is)
      (table_encoded s bounds.format Directories all encoding.1 directories.0 directories.1
      directories_is)
      (table_encoded s bounds.format (Files (length directories.0)) all directories.1 files.0
      files.1
      files_is) in
      subst (λ (h : LineHeader). IsEncodedAt (EncodesHeader s place) s.line place h h.past)
      (ok-is {E = Cause} it header h4)
      (program-encoded bounds it refl refl t fields.0 fields.1 fields.2)))))

  pub header_again : (header : LineHeader)
      → IsEncodedAt (EncodesHeader s place) s.line place header header.past
      → header_at s place ≡ Ok header
  unfolding header_at
  header_again header h =
      let line = s.line in
      let t = h.encoded in
      let head : List ℕ = 5 ∷ 0 ∷ 8 ∷ 0 ∷ t.header_length in
      let past : ℕ = header.past in
      let all = subst (λ (b : List ℕ). Stretch line place b past)
      (t.whole ∙ ap (λ (b : List ℕ). t.unit_length ++ b) t.unit_is)
      (stretch-of (EncodesHeader s place) line place header past h) in
      let mid : ℕ = place + length t.unit_length in
      let start : ℕ = mid + length head in
      let same_start : place + length t.unit_length + 4 + length t.header_length ≡ start =
      omega arith in
      let unit = rest-of line place t.unit_length (head ++ (t.fields ++ t.instructions)) past all in
      let body = rest-of line mid head (t.fields ++ t.instructions) past unit in
      let encoded = subst (λ (n : ℕ). EncodesFields s t.format n t.fields header) same_start
      t.fields_are in
      let fields = subst (λ (n : ℕ). Stretch line start t.fields n) (sym encoded.first_is)
      (first_of line start t.fields t.instructions past body) in
      let bounds : ProgramBounds = record
      { format = t.format; fields = start; first = header.first; past = past } in
      let bounds_is = bounds-again line place bounds (record {
        unit_length = t.unit_length;
        header_length = t.header_length;
        mid = mid;
        unit = length t.unit;
        counted = length t.fields;
        length_there = first_of line place t.unit_length (head ++ (t.fields ++ t.instructions)) past
            all;
        head_there = first_of line mid head (t.fields ++ t.instructions) past unit;
        unit_is = t.unit_length_is;
        counted_is = t.header_length_is;
        past_is = omega (arith, unit.next_is, ap length t.unit_is);
        first_is = encoded.first_is;
        first = omega (
          arith,
          encoded.first_is,
          body.next_is,
          length-append t.fields t.instructions,
        );
        past = front-within line mid (head ++ (t.fields ++ t.instructions)) past (omega arith) unit;
      }) in
      rw (
        bounds_is,
        encoding_is s t.format start t.fields header encoded fields,
        directories_are s t.format start t.fields header encoded fields,
        files_are s t.format start t.fields header encoded fields,
      ) (refl {a = Ok header})
