-- The used attributes of an entry in slots, one for each name.
use Rattle.std.specs.{Option.option_or, Prelude.{Bool, List, None, Option, Some}}
use Rattle.std.specs.Prelude.{drop, false, find, if◌then◌else◌, length, option_map, slice_index_or}
use Rattle.std.specs.Prelude.{unwrap_or, ℕ, ◌<◌, ◌==◌, ◌≡◌}
use Rattle.dwarf_bytes.specs.Forms.{number_at}
use Rattle.dwarf_bytes.specs.declared.constants.TheConstants.{DW_FORM_IMPLICIT_CONST}
use Rattle.dwarf_units.specs.{Private.{FixedSizes.value_in, Names.slot_of}, Used.{Used, used_by}}
use Rattle.dwarf_units.specs.declared.attributes.AttributeValue.{AttributeValue}
use Rattle.dwarf_units.specs.declared.used_name.TheConstants.{CALL_FILE_SLOT}
use Rattle.dwarf_units.specs.declared.used_position.UsedPosition.{UsedPosition}
use Rattle.dwarf_units.specs.declared.value_slot.{ValueSlot.ValueSlot, ValueSlots.ValueSlots}

-- The value in a slot, if the slot has one.
abbrev pub value_of_slot : List Bool → List AttributeValue → ℕ → Option AttributeValue
value_of_slot has_value values slot = if slice_index_or has_value slot false
    then Some (slice_index_or values slot (record { form = 0; number = 0 })) else None

abbrev pub in_slots : List Bool → List AttributeValue → Used
in_slots has_value values = used_by (λ name. value_of_slot has_value values (slot_of name))

-- ---- the values of entries whose attributes all have a fixed size

-- The value of a constant of the declaration.
abbrev pub constant_value : ℕ → AttributeValue
constant_value n = record { form = DW_FORM_IMPLICIT_CONST; number = n }

-- The value of an attribute in an entry whose attributes start at the bytes.
abbrev pub slot_value : List ℕ → ValueSlot → AttributeValue
slot_value bytes s =
    record { form = s.form; number = unwrap_or (number_at s.width bytes s.offset) 0 }

-- The value in a slot, or the call_file that the declaration has.
abbrev pub value_in_slot : ValueSlots → List ℕ → ℕ → Option AttributeValue
value_in_slot s bytes slot = option_or
    (if slot == CALL_FILE_SLOT then option_map constant_value s.file else None)
    (option_map (slot_value bytes) (slice_index_or s.slots slot None))

-- The used attributes of the entry.
abbrev pub used_in : ValueSlots → List ℕ → Used
used_in s bytes = used_by (λ name. value_in_slot s bytes (slot_of name))

-- Each slot has the value at the first position of its name.
pub record AreSlots (used : List UsedPosition) (slots : ValueSlots) : Type 0 where
  pub len : length slots.slots ≡ 9
  pub each : (slot : ℕ) → slot < 13 → (bytes : List ℕ) (first : ℕ)
      → value_in_slot slots (drop first bytes) slot
      ≡ option_map (value_in bytes first) (find (λ p. slot_of p.name == slot) used)
