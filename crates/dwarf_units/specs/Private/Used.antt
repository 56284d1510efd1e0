-- The used attributes of an entry as they are added one by one.
use Rattle.dwarf_bytes.specs.declared.fault.Cause.{Cause}
use Rattle.dwarf_units.specs.{Entries.value_of, Used.{Used, name_of, used_by, value_named}}
use Rattle.dwarf_units.specs.declared.attributes.Attribute.{Attribute}
use Rattle.std.specs.{Option.option_or, Prelude.{Err, List, Ok, Result, ℕ}}

-- The used attributes of `front`, and from a list the used attributes that `front` lacks.
unfoldable pub with_used : Used → List Attribute → Used
with_used front attributes =
    used_by (λ name. option_or (value_named name front) (value_of attributes (name_of name)))

-- The used attributes so far, completed by those that a read stores.
abbrev pub used_after : Used → Result (List Attribute × ℕ) Cause → Result (Used × ℕ) Cause
used_after front (Ok rest) = Ok (with_used front rest.0, rest.1)
used_after front (Err cause) = Err cause
