-- The encoding of the entries of a table, in both directions.
use Rattle.std.proofs.Common.{◌≡◌, ℕ, ◌+◌, ◌≤◌, List, [], ◌∷◌, ◌++◌, length, drop, Bool, true}
use Rattle.std.proofs.Common.{false, cond, not, ◌&&◌, ◌==◌, Ok, refl, sym, ap, ◌∙◌, subst, arith}
use Rattle.std.specs.Prelude.{count_by, nat_le}
use Rattle.std.specs.List.{list_all}
use Rattle.std.proofs.lemmas.Bool.{and_parts}
use Rattle.std.proofs.lemmas.Bool.Decides.{nat_tests}
use Rattle.std.proofs.lemmas.List.Sums.{sum_by-cons}
use Rattle.dwarf_bytes.specs.declared.fault.Cause.{Cause}
use Rattle.dwarf_bytes.specs.declared.fault.Cause.TheVariants as causes
use Rattle.dwarf_bytes.specs.declared.format.Format.{Format}
use Rattle.dwarf_bytes.specs.Numbers.{IsEncodedAt}
use Rattle.dwarf_bytes.proofs.Numbers.Advance.{after-bind, after-test}
use Rattle.dwarf_lines.specs.declared.formats.Field.{Field}
use Rattle.dwarf_lines.specs.declared.formats.EntryTable.{EntryTable}
use Rattle.dwarf_lines.specs.declared.entries.Entry.{Entry}
use Rattle.dwarf_lines.specs.Sections.{LineSections}
use Rattle.dwarf_lines.specs.Formats.{is_path, is_index, has_valid_form, is_format}
use Rattle.dwarf_lines.specs.Entries.{field_at, fields_at, no_entry, has_directory, entry_at}
use Rattle.dwarf_lines.specs.HeaderEncodings.{EncodesEach, EncodesPart, path, directory, other}
use Rattle.dwarf_lines.specs.HeaderEncodings.{EncodesEntry}
use Rattle.dwarf_lines.proofs.Headers.BoundsLaws.{ok-is}
use Rattle.dwarf_lines.proofs.Lists.Spans.{Stretch, stretch-of, encoded-of, none-at, join, first_of}
use Rattle.dwarf_lines.proofs.Lists.Spans.{rest-of}
use Rattle.dwarf_lines.proofs.Headers.ParameterEncodings.{passed}
use Rattle.dwarf_lines.proofs.Headers.FieldEncodings.{part_encoded, part_again}

-- ---- the number of fields of a content type

one-if : Bool → ℕ
one-if b = cond b 1 0

module _ {X : Type 0} (p : X → Bool) (x : X) (xs : List X) where
  count_more : count_by p (x ∷ xs) ≡ one-if (p x) + count_by p xs
  unfolding one-if
  count_more = sum_by-cons (λ y. cond (p y) 1 0) x xs

  one_at_front : count_by p (x ∷ xs) ≤ 1 → p x ≡ true → count_by p xs ≡ 0
  unfolding one-if
  one_at_front le is = let one : one-if (p x) ≡ 1 = rw is refl in omega (arith, count_more, one)

  fewer_behind : count_by p (x ∷ xs) ≤ 1 → count_by p xs ≤ 1
  fewer_behind le = omega (arith, count_more)

  none_after : count_by p (x ∷ xs) ≡ 0 → count_by p xs ≡ 0
  none_after none = omega (arith, count_more)

  none_at_front : count_by p (x ∷ xs) ≡ 0 → p x ≡ false
  unfolding one-if
  none_at_front none = by (p x) (omega (arith, none, count_more))
    where
      by : (b : Bool) → one-if b ≡ 0 → b ≡ false
      by true h = absurd (omega (arith, h))
      by false h = refl

  none_of_both : p x ≡ false → count_by p xs ≡ 0 → count_by p (x ∷ xs) ≡ 0
  unfolding one-if
  none_of_both is none = let zero_is : one-if (p x) ≡ 0 = rw is refl in
      omega (arith, count_more, zero_is)

-- the conditions on a valid format
format-tests : (paths indexes : ℕ) (forms : Bool) → ((paths == 1) && nat_le indexes 1 && forms)
    ≡ true
    → (paths ≡ 1) × (indexes ≤ 1) × (forms ≡ true)
format-tests paths indexes forms h =
    let parts = and_parts ((paths == 1) && nat_le indexes 1) forms h in
    let counts = and_parts (paths == 1) (nat_le indexes 1) parts.0 in
    (grind (arith, nat_tests, counts.0), grind (arith, nat_tests, counts.1), parts.1)

abbrev IsGood : EntryTable → List Field → Type 0
IsGood table fields = (count_by is_path fields ≡ 1) × (count_by (is_index table) fields ≤ 1)
    × (list_all (has_valid_form table) fields ≡ true)

format-valid : (table : EntryTable) (fields : List Field) → is_format table fields ≡ true
    → IsGood table fields
format-valid table fields h = format-tests (count_by is_path fields)
    (count_by (is_index table) fields) (list_all (has_valid_form table) fields) h

module _ (s : LineSections) (format : Format) (table : EntryTable) (bytes : List ℕ) where
  -- an encoded field of one entry is also one of an entry that agrees in it
  same_part : (a b : Entry) (at : ℕ) (front : List ℕ) (field : Field)
      → (is_path field ≡ true → b.path ≡ a.path)
      → (is_index table field ≡ true → b.directory ≡ a.directory)
      → EncodesPart s format table a at front field
      → EncodesPart s format table b at front field
  same_part a b at front field paths indexes (path is there) = path is (rw (paths is) there)
  same_part a b at front field paths indexes (directory is there) =
      directory is (rw (indexes is) there)
  same_part a b at front field paths indexes (other layout content not_path not_index is there) =
      other layout content not_path not_index is there

  abbrev Parts : Entry → ℕ → List Field → ℕ → Type 0
  Parts entry at fields next = IsEncodedAt (EncodesEach (EncodesPart s format table entry) at) bytes
      at
      fields next

  -- a path or directory that no field gives is unchanged
  abbrev Unsaid : List Field → Entry → Entry → Type 0
  Unsaid fields before entry = (count_by is_path fields ≡ 0 → entry.path ≡ before.path)
      × (count_by (is_index table) fields ≡ 0 → entry.directory ≡ before.directory)

  fields_encoded : (fields : List Field) (before : Entry) (at : ℕ) (entry : Entry) (next : ℕ)
      → count_by is_path fields ≤ 1
      → count_by (is_index table) fields ≤ 1 → list_all (has_valid_form table) fields ≡ true
      → fields_at s format table fields before bytes at ≡ Ok (entry, next)
      → Parts entry at fields next × Unsaid fields before entry
  unfolding fields_at
  fields_encoded [] before at entry next one_path one_index valid h =
      subst (λ (p : Entry × ℕ). Parts p.0 at [] p.1 × Unsaid [] before p.0)
      (ok-is {E = Cause} (before, at) (entry, next) h) (
        encoded-of (EncodesEach (EncodesPart s format table before) at) bytes at [] at []
            (none-at bytes at) refl,
        ((λ none. refl), (λ none. refl)),
      )
  fields_encoded (field ∷ fields) before at entry next one_path one_index valid h =
      after-bind (field_at s format table field before bytes at) _ (entry, next) h
      (Parts entry at (field ∷ fields) next × Unsaid (field ∷ fields) before entry)
      (λ after after_is h1.
      let forms = and_parts (has_valid_form table field) (list_all (has_valid_form table) fields)
      valid in
      let here = part_encoded s format bytes at table field before after.0 after.1 forms.0
      after_is in
      let others = fields_encoded fields after.0 after.1 entry next
      (fewer_behind is_path field fields one_path)
      (fewer_behind (is_index table) field fields one_index) forms.1 h1 in
      let first = same_part after.0 entry at here.0.front field
      (λ is. others.1.0 (one_at_front is_path field fields one_path is))
      (λ is. others.1.1 (one_at_front (is_index table) field fields one_index is))
      here.0.encoded in
      let both = join bytes at here.0.front after.1 others.0.front next
      (stretch-of (EncodesPart s format table after.0 at) bytes at field after.1 here.0)
      (stretch-of (EncodesEach (EncodesPart s format table entry) after.1) bytes after.1 fields
      next others.0) in
      let last = subst (λ (n : ℕ). EncodesEach (EncodesPart s format table entry) n others.0.front
      fields) here.0.next_is others.0.encoded in (
        encoded-of (EncodesEach (EncodesPart s format table entry) at) bytes at (field ∷ fields)
            next
            (here.0.front ++ others.0.front) both (here.0.front, others.0.front, refl, first, last),
        (
          (λ none. others.1.0 (none_after is_path field fields none)
              ∙ here.1.0 (none_at_front is_path field fields none)),
          (λ none. others.1.1 (none_after (is_index table) field fields none)
              ∙ here.1.1 (none_at_front (is_index table) field fields none)),
        ),
      ))

  fields_again : (entry : Entry) (fields : List Field) (before : Entry) (at : ℕ) (front : List ℕ)
      (next : ℕ) → Stretch bytes at front next
      → EncodesEach (EncodesPart s format table entry) at front fields
      → (count_by is_path fields ≡ 0 → before.path ≡ entry.path)
      → (count_by (is_index table) fields ≡ 0 → before.directory ≡ entry.directory)
      → fields_at s format table fields before bytes at ≡ Ok (entry, next)
  unfolding fields_at
  fields_again entry [] before at front next there none paths indexes =
      let end : at ≡ next = omega (arith, there.next_is, ap length none) in
      let p = paths refl in
      let d = indexes refl in
      ap (λ (e : Entry). Ok (e, at)) (λ i. record { path = p i; directory = d i })
      ∙ ap (λ (n : ℕ). Ok (entry, n)) end
  fields_again entry (field ∷ fields) before at front next there some paths indexes =
      let all = subst (λ (b : List ℕ). Stretch bytes at b next) some.2 there in
      let mid = at + length some.0 in
      let first = first_of bytes at some.0 some.1 next all in
      let here = part_again s format bytes at table entry before field some.0 (drop mid bytes) mid
      first.parts first.next_is some.3 in
      let others = fields_again entry fields here.0 mid some.1 next
      (rest-of bytes at some.0 some.1 next all) some.4
      (λ none. here.2 (λ is. paths (none_of_both is_path field fields is none)))
      (λ none. here.3 (λ is. indexes (none_of_both (is_index table) field fields is none))) in
      rw (here.1, others) refl

  -- ---- entries

  pub entry_encoded : (fields : List Field) → is_format table fields ≡ true
      → (at : ℕ) (entry : Entry) (next : ℕ)
      → entry_at s format table fields bytes at ≡ Ok (entry, next)
      → IsEncodedAt (EncodesEntry s format table fields at) bytes at entry next
  unfolding entry_at
  entry_encoded fields valid at entry next h =
      after-bind (fields_at s format table fields no_entry bytes at) _ (entry, next) h
      (IsEncodedAt (EncodesEntry s format table fields at) bytes at entry next) (λ read read_is h1.
      after-test (not (has_directory table read.0)) causes.DirIndex _ (entry, next) h1
      (IsEncodedAt (EncodesEntry s format table fields at) bytes at entry next) (λ known h2.
      let parts = format-valid table fields valid in
      let a = fields_encoded fields no_entry at read.0 read.1 (omega (arith, parts.0)) parts.1
      parts.2
      read_is in
      subst (λ (p : Entry × ℕ). IsEncodedAt (EncodesEntry s format table fields at) bytes
      at p.0 p.1)
      (ok-is {E = Cause} read (entry, next) h2)
      (encoded-of (EncodesEntry s format table fields at) bytes at read.0 read.1 a.0.front
      (stretch-of (EncodesEach (EncodesPart s format table read.0) at) bytes at fields read.1 a.0)
      (record {
        parts = a.0.encoded;
        default_directory = a.1.1;
        in_table =
            passed (has_directory table read.0) known;
      }))))

  pub entry_again : (fields : List Field) → is_format table fields ≡ true
      → (at : ℕ) (entry : Entry) (next : ℕ)
      → IsEncodedAt (EncodesEntry s format table fields at) bytes at entry next
      → entry_at s format table fields bytes at ≡ Ok (entry, next)
  unfolding entry_at
  entry_again fields valid at entry next h =
      let parts = format-valid table fields valid in
      let read = fields_again entry fields no_entry at h.front next
      (stretch-of (EncodesEntry s format table fields at) bytes at entry next h) h.encoded.parts
      (λ none. absurd (omega (arith, parts.0, none))) (λ none. sym (h.encoded.default_directory
      none)) in
      rw (read, h.encoded.in_table) refl
