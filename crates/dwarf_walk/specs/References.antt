-- The reference of an entry to the next one of its origin chain (DWARF 5, 2.13 and 7.5.5).
use Rattle.std.specs.Prelude.{Option, Some, None, ◌==◌, if◌then◌else◌}
use Rattle.dwarf_bytes.specs.declared.constants.TheConstants.{DW_AT_ABSTRACT_ORIGIN}
use Rattle.dwarf_bytes.specs.declared.constants.TheConstants.{DW_AT_SPECIFICATION, DW_FORM_REF_SIG8}
use Rattle.dwarf_units.specs.{declared.attributes.AttributeValue.AttributeValue, Entries.Die}
use Rattle.dwarf_units.specs.Entries.{attribute}

-- The first of two values if it is present, otherwise the second.
abbrev pub or_else : {X : Type 0} → Option X → Option X → Option X
or_else (Some x) other = Some x
or_else None other = other

-- A reference, unless it is a type signature.
abbrev pub entry_reference : Option AttributeValue → Option AttributeValue
entry_reference None = None
entry_reference (Some value) = if value.form == DW_FORM_REF_SIG8 then None else Some value

-- The reference to the next entry: abstract_origin, otherwise specification.
abbrev pub next_of : Die → Option AttributeValue
next_of die =
    entry_reference (or_else (attribute die DW_AT_ABSTRACT_ORIGIN)
    (attribute die DW_AT_SPECIFICATION))
