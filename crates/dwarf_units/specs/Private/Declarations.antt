-- The declarations of a table. The first attributes of each are in runs, and the offset of the
-- others is stored.
use Rattle.abbreviation_memo.specs.Lists.{StartsWith, list_at}
use Rattle.dwarf_bytes.specs.declared.format.Format.{Format}
use Rattle.dwarf_forms.specs.Declarations.{Declaration}
use Rattle.dwarf_forms.specs.declared.attribute.AttributeSpecification.{AttributeSpecification}
use Rattle.dwarf_units.specs.{AbbreviationTables.Table, Entries.declaration_of}
use Rattle.dwarf_units.specs.Private.Runs.{runs_of}
use Rattle.dwarf_units.specs.declared.abbreviation_table.AbbreviationDeclaration
use Rattle.std.specs.Prelude.{List, Some, map, ℕ, ◌≡◌}
pub use AbbreviationDeclaration.{AbbreviationDeclaration}

-- A declaration with its attributes.
abbrev pub full_declaration : List ℕ → AbbreviationDeclaration → Declaration
full_declaration section declaration = record {
  code = declaration.head.code;
  tag = declaration.head.tag;
  children = declaration.head.children;
  attributes = list_at section declaration.attributes;
}

-- The declarations of a table with their attributes.
abbrev pub full_declarations : List ℕ → List AbbreviationDeclaration → List Declaration
full_declarations section table = map (full_declaration section) table

-- The attributes of a declaration are stored for units of a format.
pub record IsStored (section : List ℕ) (format : Format) (declaration : AbbreviationDeclaration)
    : Type 0 where
  pub first : List AttributeSpecification
  pub starts : StartsWith section declaration.attributes first declaration.rest
  pub runs : declaration.runs ≡ runs_of format first

-- The stored declaration of a code.
pub record IsDeclaration (table : Table) (code : ℕ) (declaration : AbbreviationDeclaration)
    : Type 0 where
  pub declared : declaration_of table.declarations code
      ≡ Some (full_declaration table.section declaration)
  pub stored : IsStored table.section table.format declaration
