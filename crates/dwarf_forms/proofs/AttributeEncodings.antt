-- Attributes, and the attributes of a declaration, are read if and only if they are encoded and
-- valid.
use Rattle.dwarf_bytes.proofs.{Contents.ContentEncodings.front-within, Numbers.Advance.reading-ok}
use Rattle.dwarf_bytes.proofs.Numbers.AtOffsets.{fixed-again, fixed-encoded}
use Rattle.dwarf_bytes.proofs.Numbers.LebEncodings.{sleb-again, sleb-encoded, uleb-again}
use Rattle.dwarf_bytes.{proofs.Numbers.LebEncodings.uleb-encoded, specs.Items.{End, Item, reading}}
use Rattle.dwarf_bytes.specs.Numbers.{IsEncodedAt, IsUleb, little_endian, sleb_at, u8_at, uleb_at}
use Rattle.dwarf_bytes.specs.declared.constants.TheConstants.{DW_FORM_IMPLICIT_CONST}
use Rattle.dwarf_forms.proofs.Encodings.{AreDistinct, AreEncoded, IsDecoded, StandsAt, again, both}
use Rattle.dwarf_forms.proofs.Encodings.{distinct-front, distinct-none, distinct-push, encoded}
use Rattle.dwarf_forms.proofs.Encodings.{joined, last-new, list-decoded, nothing, parted, stands}
use Rattle.dwarf_forms.proofs.Moves.{IsUsable, attribute_at-advances, found, found-again, name_of}
use Rattle.dwarf_forms.{proofs.Moves.with-offset, specs.Declarations.EncodesAttribute}
use Rattle.dwarf_forms.specs.{Declarations.{EncodesConstant, EndsAttributes}, Tables.attribute_at}
use Rattle.dwarf_forms.specs.Tables.{attributes_at, constant_at}
use Rattle.dwarf_forms.specs.declared.attribute.AttributeSpecification.{AttributeSpecification}
use Rattle.std.proofs.Common.{List, None, Ok, Option, Some, [], arith, length, refl, ℕ, ℤ, ◌++◌}
use Rattle.std.proofs.Common.{◌↔◌, ◌∷◌, ◌≡◌, ◌≢◌}

-- ---- numbers, constants and bytes

pub uleb-decoded : {section : List ℕ} {at value next : ℕ}
    → (reading (uleb_at section at) ≡ Ok (value, next)) ↔ IsEncodedAt IsUleb section at value next
uleb-decoded {section} {at} {value} {next} = (
  λ h. uleb-encoded section at value next (reading-ok _ (value, next) h),
  λ s. rw (uleb-again section at value next s) refl,
)

constant-decoded : {form : ℕ} {section : List ℕ} {at : ℕ} (constant : Option ℤ) {next : ℕ}
    → (constant_at form section at ≡ Ok (constant, next))
    ↔ IsEncodedAt (EncodesConstant form) section at constant next
constant-decoded {form} {section} {at} None {next} = (
  λ h. let parts : (form ≢ DW_FORM_IMPLICIT_CONST) × (at ≡ next) = grind (arith, h) in
      rw (← parts.1) (encoded (parts.0, refl) nothing),
  λ s. grind (arith, s.encoded, s.next_is),
)
constant-decoded {form} {section} {at} (Some c) {next} = (
  λ h. let parts : (form ≡ DW_FORM_IMPLICIT_CONST) × (sleb_at section at ≡ Ok (c, next)) =
      grind (arith, h) in
      let s = sleb-encoded section at c next parts.1 in
      again s (parts.0, s.encoded),
  λ s. let read = sleb-again section at c next (again s s.encoded.1) in
      grind (arith, s.encoded.0, read),
)

one_byte : (block : List ℕ) (value : ℕ) → length block ≡ 1 → value ≡ little_endian block
    → block ≡ value ∷ []
one_byte [] value len is = absurd (omega arith)
one_byte (b ∷ []) value len is = grind arith
one_byte (b ∷ c ∷ bs) value len is = absurd (omega arith)

pub byte-decoded : {section : List ℕ} {at byte next : ℕ}
    → (reading (u8_at section at) ≡ Ok (byte, next)) ↔ StandsAt section at (byte ∷ []) next
byte-decoded {section} {at} {byte} {next} = (
  λ h. let s = fixed-encoded 1 section at byte next (reading-ok _ (byte, next) h) in
      rw (← one_byte s.front byte s.encoded.0 s.encoded.1) (stands s),
  λ s. let within = front-within section at (byte ∷ []) s.rest s.parts (omega arith) in
      let value : byte ≡ little_endian (byte ∷ []) = omega arith in
      rw (fixed-again 1 section at byte next within (encoded (refl, value) s)) refl,
)

-- ---- attributes

-- attributes are read if and only if they are encoded and valid
attribute-decoded : (section : List ℕ)
    → IsDecoded EncodesAttribute EndsAttributes (AreDistinct IsUsable name_of) section
    (attribute_at section)
attribute-decoded section = record {
  item = λ before at x next good. (
    λ h. let f = found section before at (Item x next) h in
        let name = uleb-decoded.0 f.0.2 in
        let form = uleb-decoded.0 f.0.3 in
        let constant = (constant-decoded x.constant).0 f.0.4 in (
          encoded (record {
            name = name.front;
            form = form.front;
            constant = constant.front;
            whole = refl;
            name_is = name.encoded;
            form_is = form.encoded;
            constant_is = constant.encoded;
          }) (joined (joined (stands name) (stands form)) (stands constant)),
          distinct-push IsUsable name_of before x good f.1,
        ),
    λ s. let e = s.0.encoded in
        let parts = parted (e.name ++ e.form) e.constant e.whole (stands s.0) in
        let numbers = parted e.name e.form refl parts.0 in
        let constant = (constant-decoded x.constant).1 (encoded e.constant_is parts.1) in
        let name = uleb-decoded.1 (encoded e.name_is numbers.0) in
        let form = uleb-decoded.1 (encoded e.form_is numbers.1) in
        found-again section before at (Item x next)
        ((_, _, name, form, constant), last-new IsUsable name_of before x s.1),
  );
  end = λ before at next. (
    λ h. let f = found section before at (End next) h in
        let name = uleb-decoded.0 f.1 in
        let form = uleb-decoded.0 f.2 in
        both name form (record {
          name = name.front;
          form = form.front;
          whole = refl;
          name_is = name.encoded;
          form_is = form.encoded;
        }),
    λ s. let e = s.encoded in
        let parts = parted e.name e.form e.whole (stands s) in
        found-again section before at (End next)
        (_, uleb-decoded.1 (encoded e.name_is parts.0), uleb-decoded.1 (encoded e.form_is parts.1)),
  );
  none = distinct-none IsUsable name_of;
  prefix = distinct-front IsUsable name_of;
  advances = attribute_at-advances section;
}

-- the attributes of a declaration are read if and only if they and their end are encoded and valid
pub attributes-decoded : (section : List ℕ) (at : ℕ) (xs : List AttributeSpecification) (next : ℕ)
    → (attributes_at section at ≡ Ok (xs, next))
    ↔ (AreEncoded EncodesAttribute EndsAttributes section at xs next
    × AreDistinct IsUsable name_of xs)
unfolding attributes_at
attributes-decoded section at xs next =
    let decoded = list-decoded (attribute-decoded section) at xs next in
    (λ h. decoded.0 (with-offset _ (xs, next) h), λ s. rw (decoded.1 s) refl)
