-- The entry at an offset of a unit, either without its attributes or with the used ones only.
use Rattle.std.specs.Prelude.{◌≡◌, ℕ, List, Bool, true, Option, Some, None, Result, Ok, Err, nat_lt}
use Rattle.std.specs.Prelude.{◌==◌, ◌&&◌, if◌then◌else◌, ok_or}
use Rattle.dwarf_bytes.specs.{declared.fault.Cause.Cause, declared.format.Format.Format, Bind.◌>>=◌}
use Rattle.dwarf_bytes.specs.{Items.{reading, refuse_if}, Numbers.uleb_at, Position.Position}
use Rattle.dwarf_bytes.specs.Refusals.{Fails}
use Rattle.dwarf_forms.specs.Declarations.{Declaration}
use Rattle.dwarf_units.specs.Entries.{depth_limit, declaration_of, entry_at}
use Rattle.dwarf_units.specs.AbbreviationTables.{Table}
use Rattle.dwarf_units.specs.{StoredAttributes.stored_attributes, Used.{Used, used_among}}
use Rattle.dwarf_bytes.specs.declared.fault.Cause.TheVariants as causes

-- The declaration of an entry in a unit of a format.
pub record Head : Type 0 where
  pub format : Format
  pub declaration : Declaration

abbrev pub head_in : Table → Declaration → Head
head_in table declaration = record { format = table.format; declaration = declaration }

-- The head of the node at an offset and the offset after the code. It is None for a null entry.
abbrev pub head_at : Table → ℕ → Bool → List ℕ → ℕ → Result (Option Head × ℕ) Cause
head_at table depth rooted unit at = do
  code ← reading (uleb_at unit at)
  if code.0 == 0 then Ok (None, code.1) else do
    declaration ← ok_or (declaration_of table.declarations code.0) causes.AbbrevCode
    _ ← refuse_if ((depth == 0) && rooted) causes.TwoRoots
    _ ← refuse_if (nat_lt depth_limit depth) causes.TooDeep
    Ok (Some (head_in table declaration), code.1)

-- The tag and the used attributes of the entry at an offset, and the offset after it.
abbrev pub used_entry_at : Table → List ℕ → ℕ → Result ((ℕ × Used) × ℕ) Cause
used_entry_at table unit at = entry_at table.format table.declarations unit at
    >>= λ entry. Ok ((entry.0.0, used_among (stored_attributes true entry.0.1)), entry.1)

-- The call returns the first part of the value at the cursor, stores the second part in the output
-- argument, and moves the cursor after the value. It may also fail because memory ran out.
abbrev pub ReturnsAndFills : {X Y : Type 0} → Result X Cause → Y
    → (List ℕ → ℕ → Result ((X × Y) × ℕ) Cause) → Position → Position → Type 0
ReturnsAndFills (Ok x) left read old new =
    (read old.bytes old.place ≡ Ok ((x, left), new.place)) × (new.bytes ≡ old.bytes)
ReturnsAndFills (Err cause) left read old new = Fails cause (read old.bytes old.place)
