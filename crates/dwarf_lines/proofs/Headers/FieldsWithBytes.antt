-- Fields without bytes do not affect an entry: it is the same if they are not read.
use Rattle.std.proofs.Common.{◌≡◌, ℕ, zero, suc, ◌<◌, List, [], ◌∷◌, filter, Bool, true, false, not}
use Rattle.std.proofs.Common.{◌==◌, Result, Ok, Err, refl, sym, ap, subst, ◌∙◌, ◌&&◌, arith, Vec}
use Rattle.std.specs.Prelude.{count_by, nat_le}
use Rattle.std.specs.declared.alloc.Global.{Global}
use Rattle.std.proofs.lemmas.Bool.{not-false}
use Rattle.std.proofs.lemmas.Bool.Decides.{nat_tests}
use Rattle.dwarf_bytes.specs.declared.constants.TheConstants.{DW_FORM_FLAG_PRESENT}
use Rattle.dwarf_bytes.specs.Bind.{◌>>=◌}
use Rattle.std.specs.List.{list_all}
use Rattle.dwarf_bytes.specs.Contents.{content_at}
use Rattle.dwarf_bytes.specs.Position.{Position}
use Rattle.dwarf_bytes.specs.Refusals.{ReadsItems, Fails}
use Rattle.dwarf_bytes.specs.declared.format.Format.{Format}
use Rattle.dwarf_bytes.specs.declared.fault.Cause.{Cause}
use Rattle.dwarf_lines.specs.declared.formats.Field.{Field}
use Rattle.dwarf_lines.specs.declared.formats.EntryTable.{EntryTable}
use Rattle.dwarf_lines.specs.declared.entries.Entry.{Entry}
use Rattle.dwarf_lines.specs.Sections.{LineSections}
use Rattle.dwarf_lines.specs.Formats.{is_path, is_index, is_format, has_valid_form}
use Rattle.dwarf_lines.specs.Entries.{field_at, fields_at, entry_at, no_entry, repeated_at}
use Rattle.dwarf_lines.specs.Private.Readers.{has_bytes}

-- a field of DW_FORM_flag_present
abbrev flag : ℕ → Field
flag content = record { content = content; form = DW_FORM_FLAG_PRESENT }

equal : (a b : ℕ) → not (a == b) ≡ false → a ≡ b
equal a b h = let same : (a == b) ≡ true = not-false (a == b) h in grind (arith, nat_tests)

both : (a b : Bool) → (a && b) ≡ true → (a ≡ true) × (b ≡ true)
both true b h = (refl, h)
both false b h = cc

bind-same : {A B : Type 0} (r : Result A Cause) (f g : A → Result B Cause) → ((x : A) → f x ≡ g x)
    → (r >>= f) ≡ (r >>= g)
bind-same (Ok x) f g same = same x
bind-same (Err cause) f g same = refl

module _ (s : LineSections) (format : Format) (table : EntryTable) where
  passes-flag : (content : ℕ) (entry : Entry) (bytes : List ℕ) (place : ℕ)
      → has_valid_form table (flag content) ≡ true
      → field_at s format table (flag content) entry bytes place ≡ Ok (entry, place)
  unfolding field_at content_at
  passes-flag content entry bytes place valid =
      by (is_path (flag content)) refl (is_index table (flag content)) refl
    where
      by : (p : Bool) → is_path (flag content) ≡ p → (i : Bool) → is_index table (flag content) ≡ i
          → field_at s format table (flag content) entry bytes place ≡ Ok (entry, place)
      by true p i index =
          let bad : has_valid_form table (flag content) ≡ false = rw p refl in
          cc
      by false p true index =
          let bad : has_valid_form table (flag content) ≡ false = rw (p, index) refl in
          cc
      by false p false index = rw (p, index) refl

  -- The fields with bytes of a valid format give the same entry as all fields.
  pub with-bytes : (fields : List Field) → list_all (has_valid_form table) fields ≡ true
      → (entry : Entry) (bytes : List ℕ) (place : ℕ)
      → fields_at s format table (filter has_bytes fields) entry bytes place
      ≡ fields_at s format table fields entry bytes place
  unfolding fields_at
  with-bytes [] valid entry bytes place = refl
  with-bytes (field ∷ fields) valid entry bytes place =
      let parts = both (has_valid_form table field) (list_all (has_valid_form table) fields) valid
      in
      by (with-bytes fields parts.1) parts.0 (has_bytes field) refl
    where
      by : ((e : Entry) (b : List ℕ) (p : ℕ)
          → fields_at s format table (filter has_bytes fields) e b p
          ≡ fields_at s format table fields e b p) → has_valid_form table field ≡ true
          → (has : Bool) → has_bytes field ≡ has
          → fields_at s format table (filter has_bytes (field ∷ fields)) entry bytes place
          ≡ fields_at s format table (field ∷ fields) entry bytes place
      by rest first true has = rw has (bind-same (field_at s format table field entry bytes place) _
          _ (λ next. rest next.0 bytes next.1))
      by rest first false has =
          let is : field ≡ flag field.content =
          ap (λ form. record { content = field.content; form = form })
          (equal field.form DW_FORM_FLAG_PRESENT has) in
          let valid : has_valid_form table (flag field.content) ≡ true =
          subst (λ f. has_valid_form table f ≡ true) is first in
          let passes : field_at s format table field entry bytes place ≡ Ok (entry, place) =
          subst (λ f. field_at s format table f entry bytes place ≡ Ok (entry, place)) (sym is)
          (passes-flag field.content entry bytes place valid) in
          rw (has, passes) (rest entry bytes place)

  entry-with-bytes : (fields : List Field) → is_format table fields ≡ true
      → (bytes : List ℕ) (place : ℕ)
      → entry_at s format table (filter has_bytes fields) bytes place
      ≡ entry_at s format table fields bytes place
  unfolding entry_at
  entry-with-bytes fields valid bytes place =
      let paths : Bool = count_by is_path fields == 1 in
      let indexes : Bool = nat_le (count_by (is_index table) fields) 1 in
      let forms : list_all (has_valid_form table) fields ≡ true =
      (both (paths && indexes) (list_all (has_valid_form table) fields) valid).1 in
      rw (with-bytes fields forms no_entry bytes place) refl

  repeated-same : (f g : List ℕ → ℕ → Result (Entry × ℕ) Cause)
      → ((bytes : List ℕ) (place : ℕ) → f bytes place ≡ g bytes place)
      → (count : ℕ) (bytes : List ℕ) (place : ℕ) → repeated_at f count bytes place
      ≡ repeated_at g count bytes place
  unfolding repeated_at
  repeated-same f g same zero bytes place = refl
  repeated-same f g same (suc count) bytes place =
      rw (same bytes place) (bind-same (g bytes place) _ _
      (λ first. rw (repeated-same f g same count bytes first.1) refl))

  -- The entries read with all fields of a valid format equal those read with the fields that have
  -- bytes.
  pub entries-with-bytes : (fields : List Field) (count : ℕ)
      → (0 < count → is_format table fields ≡ true) → (bytes : List ℕ) (place : ℕ)
      → repeated_at (entry_at s format table (filter has_bytes fields)) count bytes place
      ≡ repeated_at (entry_at s format table fields) count bytes place
  unfolding repeated_at
  entries-with-bytes fields zero valid bytes place = refl
  entries-with-bytes fields (suc count) valid bytes place =
      repeated-same _ _ (λ b p. entry-with-bytes fields (valid (omega arith)) b p) (suc count) bytes
      place

-- Another step with the same result reads the same items.
pub reads-same : {X : Type 0} (result : Result (Vec X Global) Cause)
    (f g : List ℕ → ℕ → Result (List X × ℕ) Cause) (old new : Position)
    → f old.bytes old.place ≡ g old.bytes old.place → ReadsItems result f old new
    → ReadsItems result g old new
reads-same (Ok v) f g old new same h = (sym same ∙ h.0, h.1)
reads-same (Err cause) f g old new same h = subst (Fails cause) same h
