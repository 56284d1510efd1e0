-- The attributes of a declaration in runs: some of a fixed size, and the attribute after them.
use Rattle.dwarf_bytes.specs.{Bind.◌>>=◌, Contents.content_at, Forms.form_of, Items.reading}
use Rattle.dwarf_bytes.specs.{Numbers.block_at, declared.fault.Cause.Cause}
use Rattle.dwarf_bytes.specs.declared.form.Form.TheVariants.{Direct, ImplicitConst, Indirect}
use Rattle.dwarf_bytes.specs.declared.{form.ValueLayout.ValueLayout, format.Format.Format}
use Rattle.dwarf_forms.specs.declared.attribute.AttributeSpecification.{AttributeSpecification}
use Rattle.dwarf_units.specs.Attributes.{accepts, is_used, number_of}
use Rattle.dwarf_units.specs.Private.FixedSizes.{attributes_in, end_of, used_position}
use Rattle.dwarf_units.specs.Private.Names.{named_attribute, used_name}
use Rattle.dwarf_units.specs.StoredAttributes.{stored_attributes_at}
use Rattle.dwarf_units.specs.declared.attribute_run.LastAttribute.{LastAttribute}
use Rattle.dwarf_units.specs.declared.attribute_run.LastAttribute.TheVariants.{Checked, Unchecked}
use Rattle.dwarf_units.specs.declared.{attributes.Attribute.Attribute, used_name.UsedName.UsedName}
use Rattle.dwarf_units.specs.declared.attributes.AttributeValue.{AttributeValue}
use Rattle.dwarf_units.specs.declared.used_position.UsedPosition.{UsedPosition}
use Rattle.std.specs.{Option.{option_map_or, option_to_list}, Prelude.{Bool, List, None, Ok}}
use Rattle.std.specs.Prelude.{Option, Result, Some, [], false, if◌then◌else◌, length, true, ℕ}
use Rattle.std.specs.Prelude.{option_map, ◌&&◌, ◌++◌, ◌==◌, ◌∷◌}
use Rattle.dwarf_bytes.specs.declared.form.ValueLayout.TheVariants as layouts

-- ---- attributes whose values need no check

abbrev pub is_signed : ValueLayout → Bool
is_signed layouts.Signed = true
is_signed layout = false

-- A layout, if an attribute with this name has no invalid value in it. A used attribute must not be
-- negative.
abbrev pub valid_layout : ℕ → ValueLayout → Option ValueLayout
valid_layout name layout = if is_used name && is_signed layout then None else Some layout

-- The layout of an attribute, if it may have its form and every value in this layout is valid.
unfoldable pub unchecked_layout : AttributeSpecification → Option ValueLayout
unchecked_layout s = if accepts s.name s.form then (elim (form_of s.form) [
  | None ↦ None
  | Some (Direct layout) ↦ valid_layout s.name layout
  | Some ImplicitConst ↦ None
  | Some Indirect ↦ None
]) else None

-- ---- runs

-- Consecutive attributes of a fixed size: their size in bytes, and the positions of the used ones.
pub record Stretch : Type 0 where
  pub len : ℕ
  pub used : List UsedPosition

-- A stretch, and the attribute after it.
pub record Run : Type 0 where
  pub stretch : Stretch
  pub last : LastAttribute

-- All attributes: the runs, and the stretch after them.
pub record Runs : Type 0 where
  pub runs : List Run
  pub rest : Stretch

-- An attribute, as it is read after a stretch.
abbrev pub last_of : AttributeSpecification → LastAttribute
last_of s = option_map_or (λ layout. Unchecked (used_name s.name) s.form layout)
    (unchecked_layout s) (Checked s)

-- The run of n bytes that ends with an attribute. `used` has the positions before it.
abbrev pub run_before : ℕ → List UsedPosition → AttributeSpecification → Run
run_before n used s = record { stretch = record { len = n; used = used }; last = last_of s }

-- The attributes of a list that starts n bytes after the start of its stretch. `used` has the
-- positions before it.
unfoldable pub runs_from : Format → ℕ → List UsedPosition → List AttributeSpecification → Runs
runs_from format n used [] = record { runs = []; rest = record { len = n; used = used } }
runs_from format n used (s ∷ ss) = option_map_or
    (λ end. runs_from format end (used ++ option_to_list (used_position format n s)) ss)
    (end_of format n s) (let others = runs_from format 0 [] ss in
    record others { runs = run_before n used s ∷ others.runs })

abbrev pub runs_of : Format → List AttributeSpecification → Runs
runs_of format declared = runs_from format 0 [] declared

-- The size of all attributes, if it is fixed.
abbrev pub fixed_size : Runs → Option ℕ
fixed_size all = if length all.runs == 0 then Some all.rest.len else None

-- ---- attributes that are read in runs

-- The stored attributes of a stretch, and the offset after it.
abbrev pub stretch_at : Bool → Stretch → List ℕ → ℕ → Result (List Attribute × ℕ) Cause
stretch_at keep stretch bytes at = reading (block_at stretch.len bytes at) >>= λ block.
    Ok (if keep then attributes_in bytes at stretch.used else [], block.1)

-- The offset after a value in a layout.
abbrev pub end_in : ValueLayout → Format → List ℕ → ℕ → Result ℕ Cause
end_in layout format bytes at =
    reading (content_at layout format bytes at) >>= λ content. Ok content.1

-- A value in a layout as a number, and the offset after it.
abbrev pub number_from : ValueLayout → Format → List ℕ → ℕ → Result (ℕ × ℕ) Cause
number_from layout format bytes at = reading (content_at layout format bytes at)
    >>= λ content. Ok (number_of content.0 content.1, content.1)

-- The attribute with a name and a value, if it is used.
abbrev pub named_by : Option UsedName → AttributeValue → List Attribute
named_by name value = option_to_list (option_map (λ n. named_attribute n value) name)

-- The stored attributes and the offset after the last attribute of a run.
abbrev pub last_at : Bool → Format → LastAttribute → List ℕ → ℕ
    → Result (List Attribute × ℕ) Cause
last_at keep format (Unchecked name form layout) bytes at = do
  number ← number_from layout format bytes at
  Ok (if keep then named_by name (record { form = form; number = number.0 }) else [], number.1)
last_at keep format (Checked s) bytes at = stored_attributes_at keep format (s ∷ []) bytes at

-- One read after another.
abbrev pub then_read : Result (List Attribute × ℕ) Cause → (ℕ → Result (List Attribute × ℕ) Cause)
    → Result (List Attribute × ℕ) Cause
then_read read next = do
  first ← read
  rest ← next first.1
  Ok (first.0 ++ rest.0, rest.1)

abbrev pub run_at : Bool → Format → Run → List ℕ → ℕ → Result (List Attribute × ℕ) Cause
run_at keep format run bytes at =
    then_read (stretch_at keep run.stretch bytes at) (last_at keep format run.last bytes)

-- Runs, and the stretch after them.
abbrev pub runs_at : Bool → Format → List Run → Stretch → List ℕ → ℕ
    → Result (List Attribute × ℕ) Cause
runs_at keep format [] rest bytes at = stretch_at keep rest bytes at
runs_at keep format (run ∷ runs) rest bytes at =
    then_read (run_at keep format run bytes at) (runs_at keep format runs rest bytes)

abbrev pub all_at : Bool → Format → Runs → List ℕ → ℕ → Result (List Attribute × ℕ) Cause
all_at keep format all bytes at = runs_at keep format all.runs all.rest bytes at
