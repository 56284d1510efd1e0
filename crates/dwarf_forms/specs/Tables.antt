-- The read of an abbreviation table (DWARF 5, 7.5.3), up to its first fault.
use Rattle.std.specs.Prelude.{ℕ, ℤ, List, [], length, Option, Some, None, is_none, Result, Ok, Bool}
use Rattle.std.specs.{Prelude.{map, nat_lt, nat_le, ◌==◌, ◌||◌, ◌&&◌, if◌then◌else◌}, List.list_any}
use Rattle.dwarf_bytes.specs.{declared.fault.Cause.Cause, Bind.◌>>=◌, Items.{Next, Item, End, At}}
use Rattle.dwarf_bytes.specs.{Items.{reading, refuse_if, without_offset, items_from}, Numbers.u8_at}
use Rattle.dwarf_bytes.specs.{Numbers.{uleb_at, sleb_at}, Forms.form_of}
use Rattle.dwarf_bytes.specs.declared.constants.TheConstants.{DW_FORM_IMPLICIT_CONST}
use Rattle.dwarf_forms.specs.declared.attribute.AttributeSpecification.{AttributeSpecification}
use Rattle.dwarf_forms.specs.{declared.declaration.Head.Head, Declarations.Declaration}
use Rattle.dwarf_bytes.specs.declared.fault.Cause.TheVariants as causes

-- the constant that follows a form in a declaration
abbrev pub constant_at : ℕ → List ℕ → ℕ → Result (Option ℤ × ℕ) Cause
constant_at form section at =
    if form == DW_FORM_IMPLICIT_CONST
    then (reading (sleb_at section at) >>= λ c. Ok (Some c.0, c.1)) else Ok (None, at)

-- the attribute at an offset, after the ones before it in its declaration
abbrev pub attribute_at : List ℕ → List AttributeSpecification → ℕ
    → Result (Next AttributeSpecification) Cause
attribute_at section before at = do
  name ← reading (uleb_at section at)
  form ← reading (uleb_at section name.1)
  if (name.0 == 0) && (form.0 == 0) then Ok (End form.1) else do
    _ ← refuse_if ((name.0 == 0) || is_none (form_of form.0)) causes.Form
    _ ← refuse_if (list_any (λ attribute. attribute.name == name.0) before) causes.AttrTwice
    constant ← constant_at form.0 section form.1
    Ok (Item (record { name = name.0; form = form.0; constant = constant.0 }) constant.1)

-- the attributes of a declaration
unfoldable pub attributes_at : List ℕ → ℕ → Result (List AttributeSpecification × ℕ) Cause
attributes_at section at = without_offset (items_from (length section) (attribute_at section) [] at)

-- whether an attribute of the first list has the name of one of the second
abbrev pub shares_name : List AttributeSpecification → List AttributeSpecification → Bool
shares_name own rest =
    list_any (λ attribute. list_any (λ other. other.name == attribute.name) rest) own

-- the codes of declarations
abbrev pub codes_of : List Declaration → List ℕ
codes_of declarations = map (λ declaration. declaration.code) declarations

-- the fields of a declaration before its attributes, after declarations with these codes in its
-- table; `budget` is the maximum number of declarations of the table
abbrev pub head_at : ℕ → List ℕ → List ℕ → ℕ → Result (Next Head) Cause
head_at budget section codes at = do
  code ← reading (uleb_at section at)
  if code.0 == 0 then Ok (End code.1) else do
    _ ← refuse_if (nat_le budget (length codes)) causes.TooMany
    _ ← refuse_if (list_any (λ other. other == code.0) codes) causes.AbbrevTwice
    tag ← reading (uleb_at section code.1)
    children ← reading (u8_at section tag.1)
    _ ← refuse_if (nat_lt 1 children.0) causes.Children
    Ok (Item (record { code = code.0; tag = tag.0; children = children.0 == 1 }) children.1)

-- the declaration at an offset
abbrev pub declaration_at : ℕ → List ℕ → List Declaration → ℕ → Result (Next Declaration) Cause
declaration_at budget section before at =
    head_at budget section (codes_of before) at >>= λ next. elim next [
      | End after ↦ Ok (End after)
      | Item head after ↦ attributes_at section after >>= λ attributes.
          Ok (Item (record {
            code = head.code;
            tag = head.tag;
            children = head.children;
            attributes = attributes.0;
          }) attributes.1)
    ]

-- the table at an offset with at most `budget` declarations, and the offset after it
unfoldable pub table_at : ℕ → List ℕ → ℕ → Result (List Declaration × ℕ) At
table_at budget section offset = items_from (length section) (declaration_at budget section)
    [] offset

-- the declarations of the table, without the offset
abbrev pub declarations_of : ℕ → List ℕ → ℕ → Result (List Declaration) At
declarations_of budget section offset = table_at budget section offset >>= λ table. Ok table.0
