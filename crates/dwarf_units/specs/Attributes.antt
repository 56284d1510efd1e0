-- The used attributes, and the forms that each may have (DWARF 5, 2.2 and 7.5.4 to 7.5.6).
use Rattle.std.specs.Prelude.{ℕ, ◌-◌, pos, negsuc, List, [], ◌∷◌, ◌++◌, length, Bool, true, false}
use Rattle.std.specs.{Prelude.{Option, is_some, find, option_map, ◌==◌, ◌&&◌}, Option.option_map_or}
use Rattle.std.specs.List.{list_any}
use Rattle.dwarf_bytes.specs.declared.constants.TheConstants.{DW_AT_ABSTRACT_ORIGIN}
use Rattle.dwarf_bytes.specs.declared.constants.TheConstants.{DW_AT_ADDR_BASE, DW_AT_CALL_FILE}
use Rattle.dwarf_bytes.specs.declared.constants.TheConstants.{DW_AT_CALL_LINE, DW_AT_HIGH_PC}
use Rattle.dwarf_bytes.specs.declared.constants.TheConstants.{DW_AT_LINKAGE_NAME, DW_AT_LOW_PC}
use Rattle.dwarf_bytes.specs.declared.constants.TheConstants.{DW_AT_NAME, DW_AT_RANGES}
use Rattle.dwarf_bytes.specs.declared.constants.TheConstants.{DW_AT_RNGLISTS_BASE}
use Rattle.dwarf_bytes.specs.declared.constants.TheConstants.{DW_AT_SPECIFICATION, DW_AT_STMT_LIST}
use Rattle.dwarf_bytes.specs.declared.constants.TheConstants.{DW_AT_STR_OFFSETS_BASE, DW_FORM_ADDR}
use Rattle.dwarf_bytes.specs.declared.constants.TheConstants.{DW_FORM_ADDRX, DW_FORM_ADDRX1}
use Rattle.dwarf_bytes.specs.declared.constants.TheConstants.{DW_FORM_ADDRX2, DW_FORM_ADDRX3}
use Rattle.dwarf_bytes.specs.declared.constants.TheConstants.{DW_FORM_ADDRX4, DW_FORM_DATA1}
use Rattle.dwarf_bytes.specs.declared.constants.TheConstants.{DW_FORM_DATA2, DW_FORM_DATA4}
use Rattle.dwarf_bytes.specs.declared.constants.TheConstants.{DW_FORM_DATA8, DW_FORM_IMPLICIT_CONST}
use Rattle.dwarf_bytes.specs.declared.constants.TheConstants.{DW_FORM_LINE_STRP, DW_FORM_REF1}
use Rattle.dwarf_bytes.specs.declared.constants.TheConstants.{DW_FORM_REF2, DW_FORM_REF4}
use Rattle.dwarf_bytes.specs.declared.constants.TheConstants.{DW_FORM_REF8, DW_FORM_REF_ADDR}
use Rattle.dwarf_bytes.specs.declared.constants.TheConstants.{DW_FORM_REF_SIG8, DW_FORM_REF_UDATA}
use Rattle.dwarf_bytes.specs.declared.constants.TheConstants.{DW_FORM_RNGLISTX, DW_FORM_SDATA}
use Rattle.dwarf_bytes.specs.declared.constants.TheConstants.{DW_FORM_SEC_OFFSET, DW_FORM_STRING}
use Rattle.dwarf_bytes.specs.declared.constants.TheConstants.{DW_FORM_STRP, DW_FORM_STRX}
use Rattle.dwarf_bytes.specs.declared.constants.TheConstants.{DW_FORM_STRX1, DW_FORM_STRX2}
use Rattle.dwarf_bytes.specs.declared.constants.TheConstants.{DW_FORM_STRX3, DW_FORM_STRX4}
use Rattle.dwarf_bytes.specs.{declared.constants.TheConstants.DW_FORM_UDATA, Contents.Content}
use Rattle.dwarf_bytes.specs.Contents.{Number, Signed, Bytes}

-- Forms of class string.
abbrev pub string_forms : List ℕ
string_forms =
    DW_FORM_STRING ∷ DW_FORM_STRP ∷ DW_FORM_LINE_STRP ∷ DW_FORM_STRX ∷ DW_FORM_STRX1 ∷
    DW_FORM_STRX2 ∷ DW_FORM_STRX3 ∷ DW_FORM_STRX4 ∷ []

-- Forms of class address.
abbrev pub address_forms : List ℕ
address_forms =
    DW_FORM_ADDR ∷ DW_FORM_ADDRX ∷ DW_FORM_ADDRX1 ∷ DW_FORM_ADDRX2 ∷ DW_FORM_ADDRX3 ∷
    DW_FORM_ADDRX4 ∷ []

-- Forms of class constant that are a count. sdata and implicit_const must not be negative.
abbrev pub count_forms : List ℕ
count_forms =
    DW_FORM_DATA2 ∷ DW_FORM_DATA4 ∷ DW_FORM_DATA8 ∷ DW_FORM_DATA1 ∷ DW_FORM_UDATA ∷
    DW_FORM_SDATA ∷ DW_FORM_IMPLICIT_CONST ∷ []

-- Forms of class reference.
abbrev pub reference_forms : List ℕ
reference_forms =
    DW_FORM_REF_ADDR ∷ DW_FORM_REF1 ∷ DW_FORM_REF2 ∷ DW_FORM_REF4 ∷ DW_FORM_REF8 ∷
    DW_FORM_REF_UDATA ∷ DW_FORM_REF_SIG8 ∷ []

-- Forms of class rnglist.
abbrev pub range_list_forms : List ℕ
range_list_forms =
    DW_FORM_SEC_OFFSET ∷ DW_FORM_RNGLISTX ∷ []

-- Forms of the classes lineptr, stroffsetsptr, addrptr and rnglistsptr.
abbrev pub pointer_forms : List ℕ
pointer_forms =
    DW_FORM_SEC_OFFSET ∷ []

-- The used attributes with the forms that each may have.
abbrev pub used_attributes : List (ℕ × List ℕ)
used_attributes =
    (DW_AT_NAME, string_forms) ∷ (DW_AT_LINKAGE_NAME, string_forms) ∷
    (DW_AT_LOW_PC, address_forms) ∷ (DW_AT_HIGH_PC, address_forms ++ count_forms) ∷
    (DW_AT_CALL_FILE, count_forms) ∷ (DW_AT_CALL_LINE, count_forms) ∷
    (DW_AT_ABSTRACT_ORIGIN, reference_forms) ∷ (DW_AT_SPECIFICATION, reference_forms) ∷
    (DW_AT_RANGES, range_list_forms) ∷ (DW_AT_STMT_LIST, pointer_forms) ∷
    (DW_AT_STR_OFFSETS_BASE, pointer_forms) ∷ (DW_AT_ADDR_BASE, pointer_forms) ∷
    (DW_AT_RNGLISTS_BASE, pointer_forms) ∷ []

-- The forms of an attribute, if it is used.
abbrev pub forms_of : ℕ → Option (List ℕ)
forms_of name = option_map (λ row. row.1) (find (λ row. name == row.0) used_attributes)

-- Whether an attribute is used.
abbrev pub is_used : ℕ → Bool
is_used name = is_some (forms_of name)

abbrev pub is_among : List ℕ → ℕ → Bool
is_among xs x = list_any (λ y. x == y) xs

-- Whether an attribute may have a form. Unused attributes may have any form.
abbrev pub accepts : ℕ → ℕ → Bool
accepts name form = option_map_or (λ allowed. is_among allowed form) (forms_of name) true

abbrev pub is_negative : Content → Bool
is_negative (Signed (negsuc n)) = true
is_negative content = false

-- Whether the value of a used attribute is a negative count. Among used attributes, only counts
-- may have the form sdata.
abbrev pub is_negative_count : ℕ → Content → Bool
is_negative_count name content =
    option_map_or (λ allowed. is_among allowed DW_FORM_SDATA) (forms_of name) false
    && is_negative content

-- The value as a number, given the offset after its bytes. For a NUL-terminated string in the
-- entry itself, it is the offset of the string.
abbrev pub number_of : Content → ℕ → ℕ
number_of (Number n) after = n
number_of (Signed (pos n)) after = n
number_of (Signed (negsuc n)) after = 0
number_of (Bytes text) after = after - 1 - length text
