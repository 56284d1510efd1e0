-- The attributes of an entry that are stored when it is read: the used ones, or none.
use Rattle.std.specs.Prelude.{◌≡◌, ℕ, List, [], Bool, Result, Ok, Err, filter, if◌then◌else◌}
use Rattle.dwarf_bytes.specs.{declared.fault.Cause.Cause, declared.format.Format.Format, Bind.◌>>=◌}
use Rattle.dwarf_bytes.specs.{Position.Position, Refusals.Fails}
use Rattle.dwarf_forms.specs.declared.attribute.AttributeSpecification.{AttributeSpecification}
use Rattle.dwarf_units.specs.{declared.attributes.Attribute.Attribute, Attributes.is_used}
use Rattle.dwarf_units.specs.{Entries.attributes_at, Used.{Used, used_among}}

abbrev pub stored_attributes : Bool → List Attribute → List Attribute
stored_attributes keep attributes = if keep then filter (λ a. is_used a.name) attributes else []

-- The stored attributes of a declaration from an offset on, and the offset after all of its
-- attributes.
abbrev pub stored_attributes_at : Bool → Format → List AttributeSpecification → List ℕ → ℕ
    → Result (List Attribute × ℕ) Cause
stored_attributes_at keep format declared bytes at = attributes_at format declared bytes at
    >>= λ all. Ok (stored_attributes keep all.0, all.1)

-- The used attributes of a declaration from an offset on, if they are stored, and the offset after
-- all of its attributes.
abbrev pub used_attributes_at : Bool → Format → List AttributeSpecification → List ℕ → ℕ
    → Result (Used × ℕ) Cause
used_attributes_at keep format declared bytes at = stored_attributes_at keep format declared bytes
    at
    >>= λ stored. Ok (used_among stored.0, stored.1)

-- The call stores the value at the cursor in the output argument and moves the cursor after it. It
-- may also fail because memory ran out.
abbrev pub Fills : {Y : Type 0} → Result (Unit {0}) Cause → Y
    → (List ℕ → ℕ → Result (Y × ℕ) Cause) → Position → Position → Type 0
Fills (Ok u) left read old new =
    (read old.bytes old.place ≡ Ok (left, new.place)) × (new.bytes ≡ old.bytes)
Fills (Err cause) left read old new = Fails cause (read old.bytes old.place)
