-- Entries that are read at their offsets.
use Rattle.dwarf_bytes.specs.{Bind.◌>>=◌, declared.{fault.Cause.Cause, format.Format.Format}}
use Rattle.dwarf_forms.specs.Declarations.{Declaration}
use Rattle.dwarf_units.specs.{Entries.entry_at, StoredAttributes.stored_attributes}
use Rattle.dwarf_units.specs.declared.attributes.Attribute.{Attribute}
use Rattle.dwarf_walk.specs.NamedEntries.{used_at}
use Rattle.std.proofs.{Common.{List, length, refl, true, ℕ, ◌≡◌, ◌≤◌}, lemmas.Bool.le-ltb}
use Rattle.std.specs.Prelude.{Ok, Result}

abbrev pub without_place : Result ((ℕ × List Attribute) × ℕ) Cause
    → Result (ℕ × List Attribute) Cause
without_place entry = entry >>= λ entry. Ok (entry.0.0, stored_attributes true entry.0.1)

pub inside-is : (format : Format) (table : List Declaration) (unit : List ℕ) (offset : ℕ)
    → offset ≤ length unit → used_at format table unit offset
    ≡ without_place (entry_at format table unit offset)
inside-is format table unit offset within = rw (le-ltb (length unit) offset within) refl
