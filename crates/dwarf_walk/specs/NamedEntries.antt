-- The result of reading an entry at its offset.
use Rattle.std.specs.Prelude.{ℕ, List, length, true, Result, Ok, nat_lt}
use Rattle.dwarf_bytes.specs.{declared.fault.Cause.Cause, declared.format.Format.Format, Bind.◌>>=◌}
use Rattle.dwarf_bytes.specs.Items.{refuse_if}
use Rattle.dwarf_forms.specs.Declarations.{Declaration}
use Rattle.dwarf_units.specs.{declared.attributes.Attribute.Attribute, Entries.{Die, entry_at}}
use Rattle.dwarf_units.specs.{StoredAttributes.stored_attributes, Used.{Used, used_among}}
use Rattle.dwarf_walk.specs.{declared.unit_entries.NamedEntry.NamedEntry, Stored.named_entry}
use Rattle.dwarf_bytes.specs.declared.fault.Cause.TheVariants as causes

-- An entry with an offset, a tag and attributes. Its depth is irrelevant.
abbrev pub entry_with : ℕ → ℕ × List Attribute → Die
entry_with offset entry = record { offset = offset; depth = 0; tag = entry.0; attributes = entry.1 }

-- The tag and the used attributes of the entry at an offset of a unit.
abbrev pub used_at : Format → List Declaration → List ℕ → ℕ → Result (ℕ × List Attribute) Cause
used_at format table unit offset = do
  _ ← refuse_if (nat_lt (length unit) offset) causes.Short
  entry ← entry_at format table unit offset
  Ok (entry.0.0, stored_attributes true entry.0.1)

-- The same, with the used attributes by name.
abbrev pub used_by_name_at : Format → List Declaration → List ℕ → ℕ → Result (ℕ × Used) Cause
used_by_name_at format table unit offset =
    used_at format table unit offset >>= λ entry. Ok (entry.0, used_among entry.1)

-- The names and the reference of the entry at an offset of a unit.
abbrev pub named_entry_at : Format → List Declaration → List ℕ → ℕ → Result NamedEntry Cause
named_entry_at format table unit offset =
    used_at format table unit offset >>= λ entry. Ok (named_entry (entry_with offset entry))
