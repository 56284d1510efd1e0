-- An attribute with a fixed form is read as its value in the layout of the form, or as the
-- constant of its declaration. The value of an attribute of a fixed size is at its position.
use Rattle.dwarf_units.proofs.Common
use Common.{Attribute, AttributeSpecification, Bool, Cause, Content, Direct, Err, Form, Format}
use Common.{ImplicitConst, Indirect, List, None, Ok, Option, ReadFault, Result, Signed, Some, Value}
use Common.{ValueFault, ValueLayout, accepts, ap, arith, attribute_at, block_at, cond, content_at}
use Common.{direct_at, false, fixed_at, fixed_len, form_of, is_negative, is_negative_count, is_used}
use Common.{layout_len, length, ne_eqb, number_in, number_of, option_map, option_map_or, reading}
use Common.{reading_value, refl, same_Some, sym, true, unchecked_layout, used_value, value_at}
use Common.{value_len, width_in, ℕ, ℤ, ◌+◌, ◌<◌, ◌>>=◌, ◌∙◌, ◌≡◌, ◌≤◌}
use Rattle.dwarf_bytes.specs.{Items.refuse_if, declared.constants.TheConstants.DW_FORM_INDIRECT}
use Rattle.dwarf_units.specs.Private.{FixedSizes.constant_len, Runs.{is_signed, valid_layout}}
use Rattle.dwarf_units.specs.declared.used_position.UsedValue.TheVariants.{At}
use Rattle.std.proofs.Common.{◌&&◌}
use Rattle.dwarf_forms.specs.Values.{reading_value as of_value}
use Rattle.dwarf_bytes.specs.declared.fault.ReadFault.TheVariants as faults
use Rattle.dwarf_bytes.specs.declared.fault.Cause.TheVariants as causes
use Rattle.dwarf_forms.specs.declared.values.ValueFault.TheVariants as value_faults

never-count : (name : ℕ) (c : Content) → is_negative c ≡ false
    → is_negative_count name c ≡ false
never-count name c h = grind arith

-- ---- the attribute

-- A value that is no negative count.
abbrev IsFine : (Content → Bool) → Result (Content × ℕ) ReadFault → Type 0
IsFine negative (Ok c) = negative c.0 ≡ false
IsFine negative (Err e) = Unit {0}

-- The attribute with a number, and the offset after it.
abbrev pub with_number : AttributeSpecification → ℕ → ℕ → Result (Attribute × ℕ) Cause
with_number s number end =
    Ok (record { name = s.name; value = record { form = s.form; number = number } }, end)

-- The content as a value, the content as an attribute, and the value as an attribute after the
-- validation.
abbrev as_value : AttributeSpecification → Content × ℕ → Result (Value × ℕ) ValueFault
as_value s c = Ok (record { form = s.form; content = c.0 }, c.1)

abbrev pub as_attribute : AttributeSpecification → Content × ℕ → Result (Attribute × ℕ) Cause
as_attribute s c = with_number s (number_of c.0 c.1) c.1

abbrev checked : AttributeSpecification → (Content → Bool) → Value × ℕ
    → Result (Attribute × ℕ) Cause
checked s negative value = refuse_if (negative value.0.content) causes.AttrForm
    >>= λ _. as_attribute s (value.0.content, value.1)

checked-fine : (s : AttributeSpecification) (negative : Content → Bool)
    (r : Result (Content × ℕ) ReadFault) → IsFine negative r → (reading r >>= as_attribute s)
    ≡ (reading_value (of_value r >>= as_value s) >>= checked s negative)
checked-fine s negative r fine = grind arith

-- What is known of an attribute from its form follows from the layout of its value, or from the
-- constant of its declaration.
pub by-form : {X P : Type 0} (in_layout : ValueLayout → Option X) (constant : Option X) (x : X)
    (accepted : Bool) (found : Option Form) → cond accepted (elim found as (λ _. Option X) [
      | None ↦ None
      | Some (Direct layout) ↦ in_layout layout
      | Some ImplicitConst ↦ constant
      | Some Indirect ↦ None
    ]) None ≡ Some x
    → ((layout : ValueLayout) → accepted ≡ true → found ≡ Some (Direct layout)
    → in_layout layout ≡ Some x → P)
    → (accepted ≡ true → found ≡ Some ImplicitConst → constant ≡ Some x → P) → P
by-form in_layout constant x false found is direct declared = cc
by-form in_layout constant x true None is direct declared = cc
by-form in_layout constant x true (Some (Direct layout)) is direct declared =
    direct layout refl refl is
by-form in_layout constant x true (Some ImplicitConst) is direct declared = declared refl refl is
by-form in_layout constant x true (Some Indirect) is direct declared = cc

-- The value in a layout that needs no check is no negative count.
valid-fine : (name : ℕ) (layout found : ValueLayout) (format : Format) (bytes : List ℕ) (at : ℕ)
    (b : Bool) → ((c : Content) → b ≡ false → is_negative_count name c ≡ false)
    → cond (b && is_signed layout) None (Some layout) ≡ Some found → (layout ≡ found)
    × IsFine (is_negative_count name) (content_at layout format bytes at)
unfolding content_at
valid-fine name layout found format bytes at b unused h =
    grind (arith, λ (z : ℤ). unused (Signed z), never-count name)

-- ---- values of a fixed size

-- The read after n bytes.
abbrev pub after_bytes : {X : Type 0} → ℕ → List ℕ → ℕ → (ℕ → Result X Cause) → Result X Cause
after_bytes n bytes at next = reading (block_at n bytes at) >>= λ block. next block.1

pub after-none : {X : Type 0} (bytes : List ℕ) (at : ℕ) (next : ℕ → Result X Cause)
    → at ≤ length bytes → after_bytes 0 bytes at next ≡ next at
unfolding block_at
after-none bytes at next le = grind (arith, le)

-- A read takes n bytes and returns no negative number, or fails because fewer than n bytes remain.
abbrev IsFixed : ℕ → List ℕ → ℕ → Result (Content × ℕ) ReadFault → Type 0
IsFixed n bytes at (Ok c) =
    (is_negative c.0 ≡ false) × (c.1 ≡ at + n) × (at + n ≤ length bytes)
IsFixed n bytes at (Err e) = (e ≡ faults.Short) × (length bytes < at + n)

content-fixed : (layout : ValueLayout) (format : Format) (n : ℕ) (bytes : List ℕ) (at : ℕ)
    → layout_len format layout ≡ Some n → at ≤ length bytes
    → IsFixed n bytes at (content_at layout format bytes at)
unfolding content_at fixed_at block_at
content-fixed layout format n bytes at len le = grind arith

fixed-fine : (name n : ℕ) (bytes : List ℕ) (at : ℕ) (r : Result (Content × ℕ) ReadFault)
    → IsFixed n bytes at r → IsFine (is_negative_count name) r
fixed-fine name n bytes at r fixed = grind (arith, never-count name)

-- A value as a number, or 0 if its bytes are missing.
abbrev content_number : Result (Content × ℕ) ReadFault → ℕ
content_number (Ok c) = number_of c.0 c.1
content_number (Err e) = 0

in-block : (s : AttributeSpecification) (m : ℕ) (bytes : List ℕ) (at : ℕ)
    (r : Result (Content × ℕ) ReadFault) → at ≤ length bytes → IsFixed m bytes at r
    → (reading r >>= as_attribute s) ≡ after_bytes m bytes at (with_number s (content_number r))
unfolding block_at
in-block s m bytes at r le fixed = grind arith

-- The value has this size, and that of a used attribute is the number at its position.
value-there : (format : Format) (name : ℕ) (layout : ValueLayout) (m : ℕ) (bytes : List ℕ)
    (first n : ℕ) → value_len format name layout ≡ Some m → (layout_len format layout ≡ Some m)
    × (is_used name ≡ true
    → option_map (number_in bytes first) (option_map (At n) (width_in format layout))
    ≡ Some (content_number (content_at layout format bytes (first + n))))
unfolding content_at block_at fixed_at
value-there format name layout m bytes first n len = grind (arith, len)

-- A constant of the declaration takes no bytes.
constant-read : (s : AttributeSpecification) (negative : Content → Bool) (constant : Option ℤ)
    (bytes : List ℕ) (at m : ℕ) → (elim constant as (λ _. Option ℕ) [
      | None ↦ None
      | Some c ↦ cond (negative (Signed c)) None (Some 0)
    ]) ≡ Some m → at ≤ length bytes → (reading_value (elim constant as
    (λ _. Result (Value × ℕ) ValueFault) [
      | None ↦ Err value_faults.Form
      | Some c ↦ Ok (record { form = s.form; content = Signed c }, at)
    ]) >>= checked s negative) ≡ after_bytes m bytes at
    (with_number s (option_map_or (λ c. number_of (Signed c) 0) constant 0))
unfolding block_at
constant-read s negative constant bytes at m len le = grind arith

-- ---- the attribute of a specification

module _ (format : Format) (s : AttributeSpecification) (bytes : List ℕ) where
  -- An attribute whose form is in its declaration is read as a value of this form.
  attribute-direct : (found : Form) (at : ℕ) → accepts s.name s.form ≡ true
      → form_of s.form ≡ Some found → (found ≡ Indirect → ⊥) → attribute_at format s bytes at
      ≡ (reading_value (value_at s.form format s.constant bytes at)
      >>= checked s (is_negative_count s.name))
  attribute-direct found at fine is apart =
      let other : s.form ≡ DW_FORM_INDIRECT → ⊥ =
      λ same. apart (same_Some found Indirect (sym is ∙ ap form_of same)) in
      rw (ne_eqb s.form DW_FORM_INDIRECT other, fine) refl

  -- If the form has a layout and the value is no negative count, the layout is read.
  in-layout : (layout : ValueLayout) (at : ℕ) → accepts s.name s.form ≡ true
      → form_of s.form ≡ Some (Direct layout)
      → IsFine (is_negative_count s.name) (content_at layout format bytes at)
      → attribute_at format s bytes at
      ≡ (reading (content_at layout format bytes at) >>= as_attribute s)
  unfolding value_at direct_at
  in-layout layout at fine is valid =
      attribute-direct (Direct layout) at fine is (λ e. cc)
      ∙ (rw (is, value_at) (rw (is, direct_at) refl)
      ∙ sym (checked-fine s (is_negative_count s.name) (content_at layout format bytes at) valid))

  -- An attribute whose value needs no check is read by its layout.
  pub unchecked-read : (layout : ValueLayout) (at : ℕ) → unchecked_layout s ≡ Some layout
      → attribute_at format s bytes at
      ≡ (reading (content_at layout format bytes at) >>= as_attribute s)
  unfolding unchecked_layout
  unchecked-read layout at h =
      by-form (valid_layout s.name) None layout (accepts s.name s.form) (form_of s.form) h
      (λ own fine is found.
      let valid = valid-fine s.name own layout format bytes at (is_used s.name)
      (λ c unused. grind (arith, unused)) found in
      rw (← valid.0) (in-layout own at fine is valid.1))
      (λ fine is none. cc)

  -- An attribute of m bytes, n bytes after the first one, has a number. If the attribute is used,
  -- the number is at its position.
  pub record IsAt (first n m : ℕ) : Type 0 where
    pub number : ℕ
    pub read : attribute_at format s bytes (first + n)
        ≡ after_bytes m bytes (first + n) (with_number s number)
    pub place : is_used s.name ≡ true
        → option_map (number_in bytes first) (used_value format n s) ≡ Some number

  pub fixed-at : (first n m : ℕ) → fixed_len format s ≡ Some m → first + n ≤ length bytes
      → IsAt first n m
  unfolding fixed_len value_at
  fixed-at first n m h le = by-form (value_len format s.name) (constant_len s) m
      (accepts s.name s.form) (form_of s.form) h
      (λ layout fine is len.
      let there = value-there format s.name layout m bytes first n len in
      let fixed = content-fixed layout format m bytes (first + n) there.0 le in record {
        number = content_number (content_at layout format bytes (first + n));
        read = in-layout layout (first + n) fine is (fixed-fine s.name m bytes (first + n) _ fixed)
            ∙ in-block s m bytes (first + n) _ le fixed;
        place = λ used. rw (is, option_map, used_value) (there.1 used);
      })
      (λ fine is len. record {
        number = option_map_or (λ c. number_of (Signed c) 0) s.constant 0;
        read = attribute-direct ImplicitConst (first + n) fine is (λ e. cc)
            ∙ rw (is, value_at)
            (constant-read s (is_negative_count s.name) s.constant bytes (first + n) m len le);
        place = λ used. rw (is, option_map, used_value) (grind (arith, len));
      })
