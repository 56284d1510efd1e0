-- The encoding of a field of an entry, in both directions.
use Rattle.std.proofs.Common.{◌≡◌, ℕ, ◌+◌, List, ◌++◌, length, drop, Bool, true, false, cond, Ok}
use Rattle.std.proofs.Common.{Err, Some, None, refl, sym, subst}
use Rattle.std.specs.Prelude.{Option, is_some}
use Rattle.std.specs.Option.{option_map_or}
use Rattle.dwarf_bytes.specs.declared.fault.Cause.{Cause}
use Rattle.dwarf_bytes.specs.declared.fault.Cause.TheVariants as causes
use Rattle.dwarf_bytes.specs.declared.format.Format.{Format}
use Rattle.dwarf_bytes.specs.declared.form.ValueLayout.{ValueLayout}
use Rattle.dwarf_bytes.specs.Bind.{◌>>=◌}
use Rattle.dwarf_bytes.specs.Items.{reading}
use Rattle.dwarf_bytes.specs.Numbers.{IsEncodedAt}
use Rattle.dwarf_bytes.specs.Contents.{Content, EncodesContent, content_at}
use Rattle.dwarf_bytes.proofs.Numbers.Advance.{after-bind, chosen, reading-ok}
use Rattle.dwarf_bytes.proofs.Contents.ContentLaws.{content-encoded}
use Rattle.dwarf_bytes.proofs.Contents.ContentEncodings.{content-again}
use Rattle.dwarf_lines.specs.declared.formats.Field.{Field}
use Rattle.dwarf_lines.specs.declared.formats.EntryTable.{EntryTable}
use Rattle.dwarf_lines.specs.declared.formats.EntryTable.TheVariants.{Directories, Files}
use Rattle.dwarf_lines.specs.declared.entries.Entry.{Entry}
use Rattle.dwarf_lines.specs.Sections.{LineSections}
use Rattle.dwarf_lines.specs.Formats.{is_path, is_index, is_text_form, is_index_form, layout_of}
use Rattle.dwarf_lines.specs.Formats.{has_valid_form}
use Rattle.dwarf_lines.specs.Entries.{path_at, index_at, after_value, field_at}
use Rattle.dwarf_lines.specs.HeaderEncodings.{EncodesPath, EncodesIndex, EncodesPart, path}
use Rattle.dwarf_lines.specs.HeaderEncodings.{directory, other}
use Rattle.dwarf_lines.proofs.Headers.BoundsLaws.{ok-is}
use Rattle.dwarf_lines.proofs.Instructions.OperandEncodings.{eqb-eq}
use Rattle.dwarf_lines.proofs.Headers.PathEncodings.{encoded-as, path_encoded, path_again}
use Rattle.dwarf_lines.proofs.Headers.PathEncodings.{index_encoded, index_again}

module _ (s : LineSections) (format : Format) (bytes : List ℕ) (at : ℕ) where
  -- ---- fields

  module _ (table : EntryTable) where
    -- a field changes neither the path nor the directory unless it is that field
    abbrev KeptBy : Field → Entry → Entry → Type 0
    KeptBy field before after = (is_path field ≡ false → after.path ≡ before.path)
        × (is_index table field ≡ false → after.directory ≡ before.directory)

    value-encoded : (field : Field) (entry : Entry) (next : ℕ) → is_path field ≡ false
        → is_index table field ≡ false
        → after_value format field.form bytes at ≡ Ok next
        → IsEncodedAt (EncodesPart s format table entry at) bytes at field next
    value-encoded field entry next not_path not_index h = by (layout_of field.form) refl h
      where
        by : (layout : Option ValueLayout) → layout_of field.form ≡ layout
            → option_map_or (λ layout. reading (content_at layout format bytes at)
            >>= λ content. Ok content.1) layout (Err causes.FileFormat) ≡ Ok next
            → IsEncodedAt (EncodesPart s format table entry at) bytes at field next
        by None is h = cc
        by (Some layout) is h =
            after-bind (reading (content_at layout format bytes at)) _ next h
            (IsEncodedAt (EncodesPart s format table entry at) bytes at field next)
            (λ content content_is h1.
            let a = content-encoded layout format bytes at content.0 content.1
            (reading-ok (content_at layout format bytes at) content content_is) in
            subst (λ (n : ℕ). IsEncodedAt (EncodesPart s format table entry at) bytes at field n)
            (ok-is {E = Cause} content.1 next h1)
            (encoded-as (EncodesContent layout format) (EncodesPart s format table entry at) bytes
            at
            content.0 field content.1
            (λ front there. other layout content.0 not_path not_index is there) a))

    index_is_no_path : (field : Field) → is_index table field ≡ true → is_path field ≡ false
    index_is_no_path field h = by table h
      where
        by : (t : EntryTable) → is_index t field ≡ true → is_path field ≡ false
        by Directories h = cc
        by (Files directories) h = let two = eqb-eq field.content 2 h in rw two refl

    path_is_no_index : (field : Field) → is_path field ≡ true → is_index table field ≡ false
    path_is_no_index field h = by table h
      where
        by : (t : EntryTable) → is_path field ≡ true → is_index t field ≡ false
        by Directories h = refl
        by (Files directories) h = let one = eqb-eq field.content 1 h in rw one refl

    first_form : (a b x y z : Bool) → cond a x (cond b y z) ≡ true → a ≡ true → x ≡ true
    first_form true b x y z h is = h
    first_form false b x y z h is = absurd cc

    second_form : (a b x y z : Bool) → cond a x (cond b y z) ≡ true → a ≡ false → b ≡ true
        → y ≡ true
    second_form true b x y z h not_a is = absurd cc
    second_form false true x y z h not_a is = h
    second_form false false x y z h not_a is = absurd cc

    pub part_encoded : (field : Field) (before after : Entry) (next : ℕ)
        → has_valid_form table field ≡ true
        → field_at s format table field before bytes at ≡ Ok (after, next)
        → IsEncodedAt (EncodesPart s format table after at) bytes at field next
        × KeptBy field before after
    unfolding field_at
    part_encoded field before after next valid h =
        let P : Type 0 = IsEncodedAt (EncodesPart s format table after at) bytes at field next
        × KeptBy field before after in
        chosen (is_path field) _ _ (Ok (after, next)) h P
        (λ is h1. after-bind (path_at s format field.form bytes at) _ (after, next) h1 P
        (λ text text_is h2.
        let it : Entry = record before { path = text.0 } in
        let a = path_encoded s format bytes at field.form text.0 text.1
        (first_form (is_path field) (is_index table field) (is_text_form field.form)
        (is_index_form field.form) (is_some (layout_of field.form)) valid is) text_is in
        subst (λ (p : Entry × ℕ). IsEncodedAt (EncodesPart s format table p.0 at) bytes at field p.1
        × KeptBy field before p.0) (ok-is {E = Cause} (it, text.1) (after, next) h2) (
          encoded-as (EncodesPath s format at field.form) (EncodesPart s format table it at) bytes
              at
              text.0 field text.1 (λ front there. path is there) a,
          ((λ test. absurd cc), (λ test. refl)),
        )))
        (λ not_path h1. chosen (is_index table field) _ _ (Ok (after, next)) h1 P
        (λ is h2. after-bind (index_at field.form bytes at) _ (after, next) h2 P
        (λ index index_is h3.
        let it : Entry = record before { directory = index.0 } in
        let a = index_encoded s format bytes at field.form index.0 index.1
        (second_form (is_path field) (is_index table field) (is_text_form field.form)
        (is_index_form field.form) (is_some (layout_of field.form)) valid not_path is)
        index_is in
        subst (λ (p : Entry × ℕ). IsEncodedAt (EncodesPart s format table p.0 at) bytes at field p.1
        × KeptBy field before p.0) (ok-is {E = Cause} (it, index.1) (after, next) h3) (
          encoded-as (EncodesIndex field.form) (EncodesPart s format table it at) bytes at index.0
              field index.1 (λ front there. directory is there) a,
          ((λ test. refl), (λ test. absurd cc)),
        )))
        (λ not_index h2. after-bind (after_value format field.form bytes at) _ (after, next) h2 P
        (λ last last_is h3.
        subst (λ (p : Entry × ℕ). IsEncodedAt (EncodesPart s format table p.0 at) bytes at field p.1
        × KeptBy field before p.0) (ok-is {E = Cause} (before, last) (after, next) h3) (
          value-encoded field before last not_path not_index last_is,
          ((λ test. refl), (λ test. refl)),
        ))))

    value_again : (form : ℕ) (layout : ValueLayout) (content : Content) (next : ℕ)
        → layout_of form ≡ Some layout
        → IsEncodedAt (EncodesContent layout format) bytes at content next
        → after_value format form bytes at ≡ Ok next
    value_again form layout content next is there =
        subst (λ (l : Option ValueLayout). option_map_or
        (λ layout. reading (content_at layout format bytes at) >>= λ content. Ok content.1) l
        (Err causes.FileFormat) ≡ Ok next) (sym is)
        (rw (content-again layout format bytes at content next there) refl)

    -- an encoded field of `entry` is read into `before`; the result agrees with `entry` in the path
    -- and the directory if `before` agrees in the one that the field does not give
    pub part_again : (entry before : Entry) (field : Field) (front rest : List ℕ) (next : ℕ)
        → drop at bytes ≡ front ++ rest
        → next ≡ at + length front → EncodesPart s format table entry at front field
        → (after : Entry) × (field_at s format table field before bytes at ≡ Ok (after, next))
        × ((is_path field ≡ false → before.path ≡ entry.path) → after.path ≡ entry.path)
        × ((is_index table field ≡ false → before.directory ≡ entry.directory)
        → after.directory ≡ entry.directory)
    unfolding field_at
    part_again entry before field front rest next parts next_is (path is there) = (
      record before { path = entry.path },
      rw (
        is,
        path_again s format bytes at field.form front entry.path next rest parts next_is
            there,
      ) refl,
      (λ given. refl),
      (λ given. given (path_is_no_index field is)),
    )
    part_again entry before field front rest next parts next_is (directory is there) = (
      record before { directory = entry.directory },
      rw (
        index_is_no_path field is,
        is,
        index_again s format bytes at field.form front entry.directory next
            rest parts next_is there,
      ) refl,
      (λ given. given (index_is_no_path field is)),
      (λ given. refl),
    )
    part_again entry before field front rest next parts next_is
        (other layout content not_path not_index is there) = (
          before,
          rw (
            not_path,
            not_index,
            value_again field.form layout content next is
                (record {
                  front = front;
                  rest = rest;
                  encoded = there;
                  parts = parts;
                  next_is =
                      next_is;
                }),
          ) refl,
          (λ given. given not_path),
          (λ given. given not_index),
        )
