-- The forms of attributes (DWARF 5, 7.5.6, table 7.6).
use Rattle.std.specs.Prelude.{ℕ, ◌+◌, List, [], ◌∷◌, Option, None, Some, length, nat_eq, nat_lt, find}
use Rattle.std.specs.Prelude.{option_map, if◌then◌else◌}
use Rattle.dwarf_bytes.specs.Numbers.{field}
use Rattle.dwarf_bytes.specs.declared.constants.TheConstants.{DW_FORM_ADDR, DW_FORM_BLOCK2}
use Rattle.dwarf_bytes.specs.declared.constants.TheConstants.{DW_FORM_BLOCK4, DW_FORM_DATA2}
use Rattle.dwarf_bytes.specs.declared.constants.TheConstants.{DW_FORM_DATA4, DW_FORM_DATA8}
use Rattle.dwarf_bytes.specs.declared.constants.TheConstants.{DW_FORM_STRING, DW_FORM_BLOCK}
use Rattle.dwarf_bytes.specs.declared.constants.TheConstants.{DW_FORM_BLOCK1, DW_FORM_DATA1}
use Rattle.dwarf_bytes.specs.declared.constants.TheConstants.{DW_FORM_FLAG, DW_FORM_SDATA}
use Rattle.dwarf_bytes.specs.declared.constants.TheConstants.{DW_FORM_STRP, DW_FORM_UDATA}
use Rattle.dwarf_bytes.specs.declared.constants.TheConstants.{DW_FORM_REF_ADDR, DW_FORM_REF1}
use Rattle.dwarf_bytes.specs.declared.constants.TheConstants.{DW_FORM_REF2, DW_FORM_REF4}
use Rattle.dwarf_bytes.specs.declared.constants.TheConstants.{DW_FORM_REF8, DW_FORM_REF_UDATA}
use Rattle.dwarf_bytes.specs.declared.constants.TheConstants.{DW_FORM_INDIRECT, DW_FORM_SEC_OFFSET}
use Rattle.dwarf_bytes.specs.declared.constants.TheConstants.{DW_FORM_EXPRLOC, DW_FORM_FLAG_PRESENT}
use Rattle.dwarf_bytes.specs.declared.constants.TheConstants.{DW_FORM_STRX, DW_FORM_ADDRX}
use Rattle.dwarf_bytes.specs.declared.constants.TheConstants.{DW_FORM_DATA16, DW_FORM_LINE_STRP}
use Rattle.dwarf_bytes.specs.declared.constants.TheConstants.{DW_FORM_REF_SIG8}
use Rattle.dwarf_bytes.specs.declared.constants.TheConstants.{DW_FORM_IMPLICIT_CONST}
use Rattle.dwarf_bytes.specs.declared.constants.TheConstants.{DW_FORM_LOCLISTX, DW_FORM_RNGLISTX}
use Rattle.dwarf_bytes.specs.declared.constants.TheConstants.{DW_FORM_STRX1, DW_FORM_STRX2}
use Rattle.dwarf_bytes.specs.declared.constants.TheConstants.{DW_FORM_STRX3, DW_FORM_STRX4}
use Rattle.dwarf_bytes.specs.declared.constants.TheConstants.{DW_FORM_ADDRX1, DW_FORM_ADDRX2}
use Rattle.dwarf_bytes.specs.declared.constants.TheConstants.{DW_FORM_ADDRX3, DW_FORM_ADDRX4}
use Rattle.dwarf_bytes.specs.declared.form.ValueLayout.TheVariants.{Fixed, Offset, Present, Signed}
use Rattle.dwarf_bytes.specs.declared.form.ValueLayout.TheVariants.{Unsigned, Text, Sixteen, Block}
use Rattle.dwarf_bytes.specs.declared.form.ValueLayout.TheVariants.{LongBlock}
use Rattle.dwarf_bytes.specs.declared.form.Width.{Width}
use Rattle.dwarf_bytes.specs.declared.form.Width.TheVariants.{One, Two, Three, Four, Eight}
use Rattle.dwarf_bytes.specs.declared.form.Form.{Form}
use Rattle.dwarf_bytes.specs.declared.form.Form.TheVariants.{Direct, ImplicitConst, Indirect}

-- the number of bytes of a width
abbrev pub byte_len : Width → ℕ
byte_len One = 1
byte_len Two = 2
byte_len Three = 3
byte_len Four = 4
byte_len Eight = 8

-- the number of a width at an offset, if its bytes are present
abbrev pub number_at : Width → List ℕ → ℕ → Option ℕ
number_at width bytes at =
    if nat_lt (length bytes) (at + byte_len width) then None
    else Some (field (byte_len width) bytes at)

-- The supported forms and the layouts of their values. DW_FORM_ref_sup4 (0x1c), DW_FORM_strp_sup
-- (0x1d), DW_FORM_ref_sup8 (0x24) and all other numbers are refused.
abbrev pub forms : List (ℕ × Form)
forms =
    (DW_FORM_ADDR, Direct (Fixed Eight)) ∷
    (DW_FORM_BLOCK2, Direct (Block Two)) ∷
    (DW_FORM_BLOCK4, Direct (Block Four)) ∷
    (DW_FORM_DATA2, Direct (Fixed Two)) ∷
    (DW_FORM_DATA4, Direct (Fixed Four)) ∷
    (DW_FORM_DATA8, Direct (Fixed Eight)) ∷
    (DW_FORM_STRING, Direct Text) ∷
    (DW_FORM_BLOCK, Direct LongBlock) ∷
    (DW_FORM_BLOCK1, Direct (Block One)) ∷
    (DW_FORM_DATA1, Direct (Fixed One)) ∷
    (DW_FORM_FLAG, Direct (Fixed One)) ∷
    (DW_FORM_SDATA, Direct Signed) ∷
    (DW_FORM_STRP, Direct Offset) ∷
    (DW_FORM_UDATA, Direct Unsigned) ∷
    (DW_FORM_REF_ADDR, Direct Offset) ∷
    (DW_FORM_REF1, Direct (Fixed One)) ∷
    (DW_FORM_REF2, Direct (Fixed Two)) ∷
    (DW_FORM_REF4, Direct (Fixed Four)) ∷
    (DW_FORM_REF8, Direct (Fixed Eight)) ∷
    (DW_FORM_REF_UDATA, Direct Unsigned) ∷
    (DW_FORM_INDIRECT, Indirect) ∷
    (DW_FORM_SEC_OFFSET, Direct Offset) ∷
    (DW_FORM_EXPRLOC, Direct LongBlock) ∷
    (DW_FORM_FLAG_PRESENT, Direct Present) ∷
    (DW_FORM_STRX, Direct Unsigned) ∷
    (DW_FORM_ADDRX, Direct Unsigned) ∷
    (DW_FORM_DATA16, Direct Sixteen) ∷
    (DW_FORM_LINE_STRP, Direct Offset) ∷
    (DW_FORM_REF_SIG8, Direct (Fixed Eight)) ∷
    (DW_FORM_IMPLICIT_CONST, ImplicitConst) ∷
    (DW_FORM_LOCLISTX, Direct Unsigned) ∷
    (DW_FORM_RNGLISTX, Direct Unsigned) ∷
    (DW_FORM_STRX1, Direct (Fixed One)) ∷
    (DW_FORM_STRX2, Direct (Fixed Two)) ∷
    (DW_FORM_STRX3, Direct (Fixed Three)) ∷
    (DW_FORM_STRX4, Direct (Fixed Four)) ∷
    (DW_FORM_ADDRX1, Direct (Fixed One)) ∷
    (DW_FORM_ADDRX2, Direct (Fixed Two)) ∷
    (DW_FORM_ADDRX3, Direct (Fixed Three)) ∷
    (DW_FORM_ADDRX4, Direct (Fixed Four)) ∷
    []

-- the form with a number, if it is supported
abbrev pub form_of : ℕ → Option Form
form_of number = option_map (λ row. row.1) (find (λ row. nat_eq number row.0) forms)
