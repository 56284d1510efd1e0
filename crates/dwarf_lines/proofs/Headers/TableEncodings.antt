-- The encoding of a table of a header, in both directions.
use Rattle.std.proofs.Common.{◌≡◌, ℕ, zero, suc, ◌+◌, ◌<◌, List, [], ◌∷◌, ◌++◌, length, Bool, true}
use Rattle.std.proofs.Common.{false, not, ◌&&◌, ◌==◌, Ok, refl, sym, ap, subst, arith}
use Rattle.dwarf_bytes.specs.declared.fault.Cause.TheVariants as causes
use Rattle.dwarf_bytes.specs.declared.format.Format.{Format}
use Rattle.dwarf_bytes.specs.Items.{reading}
use Rattle.dwarf_bytes.specs.Numbers.{IsUleb, IsEncodedAt, u8_at, uleb_at}
use Rattle.dwarf_bytes.proofs.Numbers.Advance.{after-bind, after-test, reading-ok}
use Rattle.dwarf_bytes.proofs.Numbers.LebEncodings.{uleb-encoded, uleb-again}
use Rattle.dwarf_lines.specs.declared.formats.Field.{Field}
use Rattle.dwarf_lines.specs.declared.formats.EntryTable.{EntryTable}
use Rattle.dwarf_lines.specs.declared.entries.Entry.{Entry}
use Rattle.dwarf_lines.specs.Sections.{LineSections}
use Rattle.dwarf_lines.specs.Formats.{is_format}
use Rattle.dwarf_lines.specs.Entries.{entry_at, repeated_at, format_at, table_at}
use Rattle.dwarf_lines.specs.HeaderEncodings.{EncodesEach, EncodesField, EncodesEntry, EncodesTable}
use Rattle.dwarf_lines.proofs.Lists.Spans.{Stretch, stretch-of, encoded-of, join, first_of, rest-of}
use Rattle.dwarf_lines.proofs.Lists.Spans.{byte-encoded, byte-again}
use Rattle.dwarf_lines.proofs.Instructions.OperandEncodings.{is-not}
use Rattle.dwarf_lines.proofs.Headers.ParameterEncodings.{passed}
use Rattle.dwarf_lines.proofs.Headers.FormatEncodings.{each-encoded, each-again, format-encoded}
use Rattle.dwarf_lines.proofs.Headers.FormatEncodings.{format-again}
use Rattle.dwarf_lines.proofs.Headers.EntryEncodings.{entry_encoded, entry_again}

-- the format is validated if there are entries
checked : (count : ℕ) (valid : Bool) → (not (count == 0) && not valid) ≡ false → 0 < count
    → valid ≡ true
checked count valid h some = passed valid (rw (is-not count 0 (λ none. omega (arith, some, none)))
    at
    h)

not-refused : (count : ℕ) (valid : Bool) → (0 < count → valid ≡ true)
    → (not (count == 0) && not valid)
    ≡ false
not-refused zero valid h = refl
not-refused (suc count) valid h = rw (
  h (omega arith),
  is-not (suc count) 0 (λ none. omega (arith, none)),
) refl

module _ (s : LineSections) (format : Format) (table : EntryTable) (bytes : List ℕ) where
  entries_encoded : (fields : List Field) (count at : ℕ) (entries : List Entry) (next : ℕ)
      → (0 < count → is_format table fields ≡ true)
      → repeated_at (entry_at s format table fields) count bytes at ≡ Ok (entries, next)
      → IsEncodedAt (EncodesEach (EncodesEntry s format table fields) at) bytes at entries next
      × (length entries ≡ count)
  entries_encoded fields count at entries next valid h =
      each-encoded (EncodesEntry s format table fields) (entry_at s format table fields) bytes count
      at entries next (λ some. entry_encoded s format table bytes fields (valid some)) h

  pub table_encoded : (at : ℕ) (entries : List Entry) (next : ℕ) → table_at s format table bytes at
      ≡ Ok (entries, next)
      → IsEncodedAt (EncodesTable s format table at) bytes at entries next
  unfolding table_at
  table_encoded at entries next h =
      let P : Type 0 = IsEncodedAt (EncodesTable s format table at) bytes at entries next in
      after-bind (reading (u8_at bytes at)) _ (entries, next) h P (λ size size_is h1.
      after-bind (repeated_at format_at size.0 bytes size.1) _ (entries, next) h1 P
      (λ fields fields_are h2.
      after-bind (reading (uleb_at bytes fields.1)) _ (entries, next) h2 P (λ count count_is h3.
      after-test (not (count.0 == 0) && not (is_format table fields.0)) causes.FileFormat _
      (entries, next) h3 P (λ test h4.
      let a = byte-encoded bytes at size (reading-ok (u8_at bytes at) size size_is) in
      let b = format-encoded size.0 bytes size.1 fields.0 fields.1 fields_are in
      let c = uleb-encoded bytes fields.1 count.0 count.1
      (reading-ok (uleb_at bytes fields.1) count count_is) in
      let valid = checked count.0 (is_format table fields.0) test in
      let d = entries_encoded fields.0 count.0 count.1 entries next valid h4 in
      let front = size.0 ∷ b.0.front in
      let ab = join bytes at (size.0 ∷ []) size.1 b.0.front fields.1 a
      (stretch-of (EncodesEach EncodesField size.1) bytes size.1 fields.0 fields.1 b.0) in
      let cd = join bytes fields.1 c.front count.1 d.0.front next
      (stretch-of IsUleb bytes fields.1 count.0 count.1 c)
      (stretch-of (EncodesEach (EncodesEntry s format table fields.0) count.1) bytes count.1
      entries next d.0) in
      let start : size.1 ≡ at + 1 = a.next_is in
      let items : count.1 ≡ at + 1 + length b.0.front + length c.front =
      omega (arith, start, b.0.next_is, c.next_is) in
      encoded-of (EncodesTable s format table at) bytes at entries next
      (front ++ (c.front ++ d.0.front))
      (join bytes at front fields.1 (c.front ++ d.0.front) next ab cd)
      (record {
        fields = fields.0;
        entry_format = b.0.front;
        count = c.front;
        items = d.0.front;
        whole = ap (λ (n : ℕ). (n ∷ b.0.front) ++ (c.front ++ d.0.front)) (sym b.1);
        fields_are = subst (λ (n : ℕ). EncodesEach EncodesField n b.0.front fields.0) start
            b.0.encoded;
        count_is = subst (λ (n : ℕ). IsUleb c.front n) (sym d.1) c.encoded;
        valid = λ some. valid (subst (λ (n : ℕ). 0 < n) d.1 some);
        entries_are = subst (λ (n : ℕ). EncodesEach (EncodesEntry s format table fields.0) n
            d.0.front
            entries) items d.0.encoded;
      })))))

  entries_again : (fields : List Field) (at : ℕ) (front : List ℕ) (entries : List Entry) (next : ℕ)
      → (0 < length entries → is_format table fields ≡ true) → Stretch bytes at front next
      → EncodesEach (EncodesEntry s format table fields) at front entries
      → repeated_at (entry_at s format table fields) (length entries) bytes at ≡ Ok (entries, next)
  entries_again fields at front entries next valid there are =
      each-again (EncodesEntry s format table fields) (entry_at s format table fields)
      bytes at front
      entries next (λ some. entry_again s format table bytes fields (valid some)) there are

  pub table-again : (at : ℕ) (entries : List Entry) (next : ℕ)
      → IsEncodedAt (EncodesTable s format table at) bytes at entries next
      → table_at s format table bytes at ≡ Ok (entries, next)
  unfolding table_at
  table-again at entries next h =
      let t = h.encoded in
      let front = length t.fields ∷ t.entry_format in
      let all = subst (λ (b : List ℕ). Stretch bytes at b next) t.whole
      (stretch-of (EncodesTable s format table at) bytes at entries next h) in
      let ab = first_of bytes at front (t.count ++ t.items) next all in
      let cd = rest-of bytes at front (t.count ++ t.items) next all in
      let start : ℕ = at + length {A = ℕ} (length t.fields ∷ []) in
      let mid : ℕ = at + length front in
      let place : ℕ = mid + length t.count in
      let first : start ≡ at + 1 = refl in
      let last : at + 1 + length t.entry_format + length t.count ≡ place = omega arith in
      let size = byte-again bytes at (length t.fields) start
      (first_of bytes at (length t.fields ∷ []) t.entry_format mid ab) in
      let fields = format-again (length t.fields) bytes start t.fields mid (
        encoded-of (EncodesEach EncodesField start) bytes start t.fields mid t.entry_format
            (rest-of bytes at (length t.fields ∷ []) t.entry_format mid ab)
            (subst (λ (n : ℕ). EncodesEach EncodesField n t.entry_format t.fields) (sym first)
            t.fields_are),
        refl,
      ) in
      let count = uleb-again bytes mid (length entries) place
      (encoded-of IsUleb bytes mid (length entries) place t.count
      (first_of bytes mid t.count t.items next cd) t.count_is) in
      let items = entries_again t.fields place t.items entries next t.valid
      (rest-of bytes mid t.count t.items next cd)
      (subst (λ (n : ℕ). EncodesEach (EncodesEntry s format table t.fields) n t.items entries)
      last t.entries_are) in
      rw (
        size,
        fields,
        count,
        not-refused (length entries) (is_format table t.fields) t.valid,
        items,
      ) refl
