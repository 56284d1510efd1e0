-- The names of the used attributes (DWARF 5, 2.2 and 7.5.4), and their slots.
use Rattle.dwarf_units.specs.{Used.name_of, declared.attributes.Attribute.Attribute}
use Rattle.dwarf_units.specs.declared.attributes.AttributeValue.{AttributeValue}
use Rattle.dwarf_units.specs.declared.used_name.UsedName.TheVariants.{AbstractOrigin, AddrBase}
use Rattle.dwarf_units.specs.declared.used_name.UsedName.TheVariants.{CallFile, CallLine, HighPc}
use Rattle.dwarf_units.specs.declared.used_name.UsedName.TheVariants.{LinkageName, LowPc, Name}
use Rattle.dwarf_units.specs.declared.used_name.UsedName.TheVariants.{Ranges, RnglistsBase}
use Rattle.dwarf_units.specs.declared.used_name.UsedName.TheVariants.{Specification, StmtList}
use Rattle.dwarf_units.specs.declared.used_name.UsedName.{TheVariants.StrOffsetsBase, UsedName}
use Rattle.std.specs.Prelude.{List, Option, [], find, ℕ, ◌==◌, ◌∷◌}

abbrev pub used_names : List UsedName
used_names = Name ∷ LinkageName ∷ AbstractOrigin ∷ Specification ∷ LowPc ∷ HighPc ∷ Ranges
    ∷ CallFile ∷ CallLine ∷ StmtList ∷ StrOffsetsBase ∷ AddrBase ∷ RnglistsBase ∷ []

-- The name of a code, if the attribute is used.
abbrev pub used_name : ℕ → Option UsedName
used_name number = find (λ name. name_of name == number) used_names

-- The attribute with a name and a value.
abbrev pub named_attribute : UsedName → AttributeValue → Attribute
named_attribute name value = record { name = name_of name; value = value }

-- The slot of a name.
abbrev pub slot_of : UsedName → ℕ
slot_of Name = 0
slot_of LinkageName = 1
slot_of AbstractOrigin = 2
slot_of Specification = 3
slot_of LowPc = 4
slot_of HighPc = 5
slot_of Ranges = 6
slot_of CallFile = 7
slot_of CallLine = 8
slot_of StmtList = 9
slot_of StrOffsetsBase = 10
slot_of AddrBase = 11
slot_of RnglistsBase = 12
