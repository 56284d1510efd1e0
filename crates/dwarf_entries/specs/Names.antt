-- References between entries (DWARF 5, 2.13 and 7.5.5) and the names of an entry (2.15, 3.3.8).
use Rattle.std.specs.Prelude.{ℕ, zero, suc, ◌+◌, List, [], ◌∷◌, Option, Some, None, Result, Ok, Err}
use Rattle.std.specs.Prelude.{◌==◌, if◌then◌else◌, find, ok_or, option_map, map, flat_map}
use Rattle.dwarf_bytes.specs.declared.constants.TheConstants.{DW_AT_LINKAGE_NAME, DW_AT_NAME}
use Rattle.dwarf_bytes.specs.declared.constants.TheConstants.{DW_FORM_LINE_STRP, DW_FORM_REF_ADDR}
use Rattle.dwarf_bytes.specs.declared.constants.TheConstants.{DW_FORM_STRING, DW_FORM_STRP}
use Rattle.dwarf_bytes.specs.{declared.fault.Cause.Cause, declared.fault.Section.Section}
use Rattle.dwarf_bytes.specs.{declared.tables.TableKind.TheVariants.StrOffsets, Bind.◌>>=◌}
use Rattle.dwarf_bytes.specs.{Items.reading, Numbers.text_at}
use Rattle.dwarf_ranges.specs.{declared.bases.Table.Table, Bases.{item_at, optional}}
use Rattle.dwarf_entries.specs.{declared.text_offset.TextOffset.TextOffset, Units.CompilationUnit}
use Rattle.dwarf_units.specs.{declared.attributes.AttributeValue.AttributeValue, Entries.Die}
use Rattle.dwarf_units.specs.Entries.{attribute}
use Rattle.dwarf_walk.specs.{Sections.Sections, References.{or_else, next_of}}
use Rattle.dwarf_bytes.specs.declared.fault.Cause.TheVariants as causes
use Rattle.dwarf_bytes.specs.declared.fault.Section.TheVariants as sections

-- An entry with its unit.
pub record Member : Type 0 where
  pub unit : CompilationUnit
  pub die : Die

-- The entries of some units, in file order.
abbrev pub members_of : List CompilationUnit → List Member
members_of units = flat_map (λ unit. map (λ die. record { unit = unit; die = die }) unit.dies) units

-- The entry at an offset of .debug_info, among these.
abbrev pub member_at : List Member → ℕ → Result Member Cause
member_at members offset = ok_or (find (λ m. m.die.offset == offset) members) causes.Reference

-- The target of a reference in a unit. A ref_addr may refer to any unit and is relative to the
-- start of the section. All other forms refer to the same unit and are relative to its first byte.
abbrev pub target_of : List CompilationUnit → CompilationUnit → AttributeValue → Result Member Cause
target_of units unit reference =
    if reference.form == DW_FORM_REF_ADDR then member_at (members_of units) reference.number
    else member_at (members_of (unit ∷ [])) (unit.header.start + reference.number)

-- The maximum number of references followed in an origin chain.
abbrev pub references_limit : ℕ
references_limit = 16

-- The origin chain of an entry: the entry, its next entry, and so on, up to an entry without a
-- reference. At most `remaining` references are followed.
unfoldable pub chain_within : ℕ → List CompilationUnit → Member → Result (List Member) Cause
chain_within zero units m =
    elim (next_of (m.die)) [ None ↦ Ok (m ∷ []) | Some reference ↦ Err causes.OriginDepth ]
chain_within (suc remaining) units m = elim (next_of (m.die)) [
  | None ↦ Ok (m ∷ [])
  | Some reference ↦ target_of units m.unit reference
      >>= λ next. chain_within remaining units next >>= λ rest. Ok (m ∷ rest)
]

-- The location of the string at an offset of a section, if a NUL follows.
abbrev pub text_in : Section → List ℕ → ℕ → Result TextOffset Cause
text_in name section offset =
    reading (text_at section offset) >>= λ _. Ok (record { section = name; offset = offset })

-- The location of the string of a value, given the string offsets table of its unit. A string of
-- form string is in the entry itself. The forms that are not named here are indexes of
-- .debug_str_offsets.
abbrev pub text_of : Sections → Option Table → AttributeValue → Result TextOffset Cause
text_of s str_offsets value =
    if value.form == DW_FORM_STRING then text_in sections.DebugInfo s.debug_info value.number
    else if value.form == DW_FORM_STRP then text_in sections.DebugStr s.debug_str value.number
    else if value.form == DW_FORM_LINE_STRP
    then text_in sections.DebugLineStr s.debug_line_str value.number
    else item_at StrOffsets s.debug_str_offsets str_offsets value.number >>= λ offset.
    text_in sections.DebugStr s.debug_str offset

-- The value of an attribute of an entry, with the unit of the entry.
abbrev pub of_member : ℕ → Member → Option (CompilationUnit × AttributeValue)
of_member name m = option_map (λ value. (m.unit, value)) (attribute m.die name)

-- The first attribute with this name on an origin chain.
abbrev pub first_on : ℕ → List Member → Option (CompilationUnit × AttributeValue)
first_on name [] = None
first_on name (m ∷ path) = or_else (of_member name m) (first_on name path)

-- The string of that attribute.
abbrev pub name_on : ℕ → Sections → List Member → Result (Option TextOffset) Cause
name_on name s path =
    optional (λ found. text_of s found.0.bases.str_offsets found.1) (first_on name path)

-- The names of an entry.
pub record EntryNames : Type 0 where
  pub name : Option TextOffset
  pub linkage_name : Option TextOffset

-- The names of an entry whose origin chain may follow at most `remaining` references: for each of
-- the two attributes, the first one on the chain.
abbrev pub names_within : ℕ → Sections → List CompilationUnit → Member → Result EntryNames Cause
names_within remaining s units m = do
  path ← chain_within remaining units m
  name ← name_on DW_AT_NAME s path
  linkage_name ← name_on DW_AT_LINKAGE_NAME s path
  Ok (record { name = name; linkage_name = linkage_name })

abbrev pub names_of : Sections → List CompilationUnit → Member → Result EntryNames Cause
names_of = names_within references_limit
