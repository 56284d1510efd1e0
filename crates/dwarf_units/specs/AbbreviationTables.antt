-- Abbreviation tables for units of a format.
use Rattle.abbreviation_memo.specs.declared.list_end.TheConstants.{UNSHARED}
use Rattle.dwarf_bytes.specs.declared.format.Format.{Format, TheVariants.{Dwarf32, Dwarf64}}
use Rattle.dwarf_forms.specs.Declarations.{Declaration}
use Rattle.std.specs.Prelude.{List, length, min, sum_by, ℕ, ◌*◌, ◌+◌}

-- The table of declarations at an offset of `.debug_abbrev`, for units of a format.
pub record Table : Type 0 where
  pub section : List ℕ
  pub offset : ℕ
  pub format : Format
  pub declarations : List Declaration

-- The key of the table at an offset, for units of a format, in the map of the indexes.
abbrev pub table_key : Format → ℕ → ℕ
table_key Dwarf32 offset = 2 * offset
table_key Dwarf64 offset = 2 * offset + 1

-- The number of the attributes of a declaration that are stored with it. The attributes after them
-- are shared.
abbrev pub unshared : Declaration → ℕ
unshared d = min (length d.attributes) UNSHARED

-- The number of the unshared attributes of all declarations.
abbrev pub unshared_count : List Declaration → ℕ
unshared_count declarations = sum_by unshared declarations

-- The size of a table: the least number of bytes in which its declarations and their unshared
-- attributes can be encoded.
abbrev pub table_size : Table → ℕ
table_size table = 5 * length table.declarations + 2 * unshared_count table.declarations
