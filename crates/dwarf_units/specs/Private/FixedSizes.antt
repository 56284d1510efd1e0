-- The sizes of attributes, and the positions of used attributes after attributes of a fixed size.
use Rattle.dwarf_bytes.specs.{Contents.Signed, Forms.{byte_len, form_of, number_at}}
use Rattle.dwarf_bytes.specs.{Numbers.offset_len, declared.form.Form.TheVariants.Direct}
use Rattle.dwarf_bytes.specs.declared.form.Form.TheVariants.{ImplicitConst, Indirect}
use Rattle.dwarf_bytes.specs.declared.form.ValueLayout.TheVariants.{Fixed, Offset, Present, Sixteen}
use Rattle.dwarf_bytes.specs.declared.form.{ValueLayout.ValueLayout, Width.Width}
use Rattle.dwarf_bytes.specs.declared.form.Width.TheVariants.{Eight, Four}
use Rattle.dwarf_bytes.specs.declared.format.Format.{Format, TheVariants.{Dwarf32, Dwarf64}}
use Rattle.dwarf_forms.specs.declared.attribute.AttributeSpecification.{AttributeSpecification}
use Rattle.dwarf_units.specs.Attributes.{accepts, is_negative_count, is_used, number_of}
use Rattle.dwarf_units.specs.Private.Names.{named_attribute, used_name}
use Rattle.dwarf_units.specs.declared.attributes.Attribute.{Attribute}
use Rattle.dwarf_units.specs.declared.attributes.AttributeValue.{AttributeValue}
use Rattle.dwarf_units.specs.declared.used_position.{UsedPosition.UsedPosition, UsedValue.UsedValue}
use Rattle.dwarf_units.specs.declared.used_position.UsedValue.TheVariants.{At, Constant}
use Rattle.std.specs.{Prelude.{List, None, Option, Some, if◌then◌else◌, map}}
use Rattle.std.specs.Prelude.{nat_le, option_and_then, option_map, unwrap_or, ℕ, ◌+◌}

-- ---- sizes of attributes

-- The size in bytes of the values in a layout, if it is fixed and any bytes are a valid value.
abbrev pub layout_len : Format → ValueLayout → Option ℕ
layout_len format (Fixed width) = Some (byte_len width)
layout_len format Offset = Some (offset_len format)
layout_len format Present = Some 0
layout_len format Sixteen = Some 16
layout_len format layout = None

-- The size of a valid value that is in the declaration.
abbrev pub constant_len : AttributeSpecification → Option ℕ
constant_len s = elim s.constant [
  | None ↦ None
  | Some c ↦ if is_negative_count s.name (Signed c) then None else Some 0
]

-- The width of the values in a layout, if they are numbers of a fixed size.
abbrev pub width_in : Format → ValueLayout → Option Width
width_in format (Fixed width) = Some width
width_in Dwarf32 Offset = Some Four
width_in Dwarf64 Offset = Some Eight
width_in format layout = None

-- The size of the values of an attribute in a layout. Those of a used attribute are numbers.
abbrev pub value_len : Format → ℕ → ValueLayout → Option ℕ
value_len format name layout = if is_used name then option_map byte_len (width_in format layout)
    else layout_len format layout

-- The fixed size of an attribute, if it may have its form.
unfoldable pub fixed_len : Format → AttributeSpecification → Option ℕ
fixed_len format s = if accepts s.name s.form then (elim (form_of s.form) [
  | None ↦ None
  | Some (Direct layout) ↦ value_len format s.name layout
  | Some ImplicitConst ↦ constant_len s
  | Some Indirect ↦ None
]) else None

-- The end of an attribute that starts at n, if its size is fixed and the end is at most 65,535.
abbrev pub end_of : Format → ℕ → AttributeSpecification → Option ℕ
end_of format n s = option_and_then
    (λ m. if nat_le (n + m) 65535 then Some (n + m) else None) (fixed_len format s)

-- ---- positions of attributes

-- Where the value of an attribute is that starts n bytes after the first attribute: in the entry,
-- if it has a width, or in the declaration.
abbrev pub used_value : Format → ℕ → AttributeSpecification → Option UsedValue
used_value format n s = elim (form_of s.form) [
  | None ↦ None
  | Some (Direct layout) ↦ option_map (At n) (width_in format layout)
  | Some ImplicitConst ↦ option_map (λ c. Constant (number_of (Signed c) 0)) s.constant
  | Some Indirect ↦ None
]

-- The position of an attribute, if it is used.
abbrev pub used_position : Format → ℕ → AttributeSpecification → Option UsedPosition
used_position format n s = option_and_then (λ name. option_map
    (λ value. record { name = name; form = s.form; value = value }) (used_value format n s))
    (used_name s.name)

-- ---- attributes at their positions

-- The number at a position in an entry whose first attribute is at an offset, or 0 if its bytes are
-- missing.
abbrev pub number_in : List ℕ → ℕ → UsedValue → ℕ
number_in bytes first (Constant n) = n
number_in bytes first (At n width) = unwrap_or (number_at width bytes (first + n)) 0

-- The value at a position.
abbrev pub value_in : List ℕ → ℕ → UsedPosition → AttributeValue
value_in bytes first p = record { form = p.form; number = number_in bytes first p.value }

-- The attribute at a position.
abbrev pub attribute_in : List ℕ → ℕ → UsedPosition → Attribute
attribute_in bytes first p = named_attribute p.name (value_in bytes first p)

abbrev pub attributes_in : List ℕ → ℕ → List UsedPosition → List Attribute
attributes_in bytes first used = map (attribute_in bytes first) used
