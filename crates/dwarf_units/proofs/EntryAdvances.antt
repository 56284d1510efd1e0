-- Each node of a unit ends after its offset and within the unit.
use Rattle.dwarf_units.proofs.Common
use Common.{Advances, Attribute, AttributeSpecification, Bool, Declaration, Format, List, MovesOn}
use Common.{Node, Ok, Option, Result, Value, ValueFault, [], accepts, after-bind, ap, arith}
use Common.{attribute_at, attributes_at, form_of, is_negative_count, length, length-append, node_at}
use Common.{reading_value, value_at, ℕ, ℤ, ◌∷◌, ◌≡◌, ◌≤◌}
use Rattle.dwarf_bytes.proofs.Numbers.{Advance.after-test, Moves.uleb-moves}
use Rattle.dwarf_forms.proofs.ValueEncodings.{value-decoded}
use Rattle.dwarf_units.specs.Entries.{form_at, node_at_depth}
use Rattle.std.proofs.Common.{length-drop, not}
use Rattle.dwarf_bytes.specs.declared.fault.Cause.TheVariants as causes

-- A read of zero or more bytes does not move the offset back or beyond the end.
abbrev StaysWithin : List ℕ → ℕ → ℕ → Type 0
StaysWithin bytes at after = (at ≤ after) × (after ≤ length bytes)

value-stays : (form : ℕ) (format : Format) (constant : Option ℤ) (bytes : List ℕ) (at : ℕ)
    (x : Value × ℕ) → at ≤ length bytes → value_at form format constant bytes at ≡ Ok x
    → StaysWithin bytes at x.1
unfolding value_at
value-stays form format constant bytes at x le h =
    let s = (value-decoded form format (form_of form) constant bytes at x.0 x.1).0 h in
    let size = length-drop at bytes in
    grind (arith, s, size, ap length s.parts, length-append s.front s.rest)

reading_value-ok : {A : Type 0} (r : Result A ValueFault) (x : A) → reading_value r ≡ Ok x
    → r ≡ Ok x
reading_value-ok r x h = grind arith

pub attribute-stays : (format : Format) (s : AttributeSpecification) (bytes : List ℕ) (at : ℕ)
    (x : Attribute × ℕ) → at ≤ length bytes → attribute_at format s bytes at ≡ Ok x
    → StaysWithin bytes at x.1
attribute-stays format s bytes at x le h =
    let P : Type 0 = StaysWithin bytes at x.1 in
    after-bind (form_at s.form bytes at) _ x h P (λ form form_is h1.
    after-test (not (accepts s.name form.0)) causes.AttrForm _ x h1 P (λ _ h2.
    after-bind (reading_value (value_at form.0 format s.constant bytes form.1)) _ x h2 P
    (λ value value_is h3.
    after-test (is_negative_count s.name value.0.content) causes.AttrForm _ x h3 P (λ _ last.
    let first : StaysWithin bytes at form.1 = grind (arith, uleb-moves bytes at, form_is) in
    let second = value-stays form.0 format s.constant bytes form.1 value first.1
    (reading_value-ok (value_at form.0 format s.constant bytes form.1) value value_is) in
    grind (arith, first, second, last)))))

pub attributes-stay : (format : Format) (declared : List AttributeSpecification) (bytes : List ℕ)
    (at : ℕ) (x : List Attribute × ℕ) → at ≤ length bytes → attributes_at format declared bytes at
    ≡ Ok x → StaysWithin bytes at x.1
unfolding attributes_at
attributes-stay format [] bytes at x le h = grind arith
attributes-stay format (s ∷ ss) bytes at x le h =
    after-bind (attribute_at format s bytes at) _ x h (StaysWithin bytes at x.1)
    (λ first first_is h1.
    let here = attribute-stays format s bytes at first le first_is in
    grind (arith, here, attributes-stay format ss bytes first.1, h1))

pub node_at_depth-moves : (format : Format) (table : List Declaration) (depth : ℕ) (rooted : Bool)
    (unit : List ℕ) (at : ℕ) (x : Node × ℕ) → node_at_depth format table depth rooted unit at ≡ Ok x
    → MovesOn unit at x.1
node_at_depth-moves format table depth rooted unit at x h =
    grind (arith, uleb-moves unit at, λ (d : Declaration). attributes-stay format d.attributes unit)

pub node_at-advances : (format : Format) (table : List Declaration) (unit : List ℕ)
    → Advances (length unit) (node_at format table unit)
node_at-advances format table unit before at x after h =
    grind (arith, node_at_depth-moves format table)
