-- The entries that are scopes, which are subprograms and inlined subroutines (DWARF 5, 3.3), and
-- the numeric values of attributes.
use Rattle.std.specs.Prelude.{ℕ, Bool, Option, Some, None, ◌==◌, if◌then◌else◌, is_some, option_map}
use Rattle.dwarf_bytes.specs.declared.constants.TheConstants.{DW_TAG_INLINED_SUBROUTINE}
use Rattle.dwarf_bytes.specs.declared.constants.TheConstants.{DW_TAG_SUBPROGRAM}
use Rattle.dwarf_units.specs.Entries.{Die, attribute}
use Rattle.dwarf_walk.specs.declared.scope_kind.ScopeKind.{ScopeKind}
use Rattle.dwarf_walk.specs.declared.scope_kind.ScopeKind.TheVariants.{Subprogram, Inlined}

-- The tags of scopes (7.5.3, table 7.3).
abbrev pub kind_of : ℕ → Option ScopeKind
kind_of tag =
    if tag == DW_TAG_SUBPROGRAM then Some Subprogram
    else (if tag == DW_TAG_INLINED_SUBROUTINE then Some Inlined else None)

abbrev pub is_scope : Die → Bool
is_scope die = is_some (kind_of die.tag)

-- The value of an attribute of an entry, as a number.
abbrev pub number_of : ℕ → Die → Option ℕ
number_of name die = option_map (λ value. value.number) (attribute die name)
