-- The contents and the encoding of abbreviation declarations (DWARF 5, 7.5.3).
use Rattle.std.specs.Prelude.{◌≡◌, ◌≢◌, ℕ, ℤ, List, [], ◌∷◌, ◌++◌, Bool, Option, Some, None, IsSome}
use Rattle.std.specs.Prelude.{if◌then◌else◌, All, AllPairs}
use Rattle.dwarf_bytes.specs.declared.constants.TheConstants.{DW_FORM_IMPLICIT_CONST}
use Rattle.dwarf_bytes.specs.{Numbers.{IsUleb, IsSleb}, Forms.form_of}
use Rattle.dwarf_forms.specs.declared.attribute.AttributeSpecification.{AttributeSpecification}

pub record Declaration : Type 0 where
  pub code : ℕ
  pub tag : ℕ
  pub children : Bool
  pub attributes : List AttributeSpecification

-- DW_FORM_implicit_const is followed by a signed LEB128 constant, and other forms by nothing.
abbrev pub EncodesConstant : ℕ → List ℕ → Option ℤ → Type 0
EncodesConstant form bytes None = (form ≢ DW_FORM_IMPLICIT_CONST) × (bytes ≡ [])
EncodesConstant form bytes (Some c) = (form ≡ DW_FORM_IMPLICIT_CONST) × IsSleb bytes c

-- The bytes encode an attribute specification: name, form, and the form's constant.
pub record EncodesAttribute (bytes : List ℕ) (attribute : AttributeSpecification) : Type 0 where
  pub name : List ℕ
  pub form : List ℕ
  pub constant : List ℕ
  pub whole : bytes ≡ (name ++ form) ++ constant
  pub name_is : IsUleb name attribute.name
  pub form_is : IsUleb form attribute.form
  pub constant_is : EncodesConstant attribute.form constant attribute.constant

-- Consecutive ranges of the bytes encode the elements, in order.
abbrev pub EncodesEach : {X : Type 0} → (List ℕ → X → Type 0) → List ℕ → List X → Type 0
EncodesEach encodes bytes [] = bytes ≡ []
EncodesEach encodes bytes (x ∷ xs) =
    (front rest : List ℕ) × (bytes ≡ front ++ rest) × encodes front x × EncodesEach encodes rest xs

-- A name 0 and a form 0 end the attributes.
pub record EndsAttributes (bytes : List ℕ) : Type 0 where
  pub name : List ℕ
  pub form : List ℕ
  pub whole : bytes ≡ name ++ form
  pub name_is : IsUleb name 0
  pub form_is : IsUleb form 0

-- The bytes encode a declaration: code, tag, children, its attributes, and their end.
pub record EncodesDeclaration (bytes : List ℕ) (declaration : Declaration) : Type 0 where
  pub code : List ℕ
  pub tag : List ℕ
  pub attributes : List ℕ
  pub end : List ℕ
  pub whole : bytes ≡ (code ++ tag)
      ++ ((if declaration.children then 1 else 0) ∷ (attributes ++ end))
  pub code_is : IsUleb code declaration.code
  pub tag_is : IsUleb tag declaration.tag
  pub attributes_are : EncodesEach EncodesAttribute attributes declaration.attributes
  pub ends : EndsAttributes end

-- The bytes encode a table: its declarations, and the code 0.
pub record EncodesTable (bytes : List ℕ) (table : List Declaration) : Type 0 where
  pub declarations : List ℕ
  pub end : List ℕ
  pub whole : bytes ≡ declarations ++ end
  pub declarations_are : EncodesEach EncodesDeclaration declarations table
  pub ends : IsUleb end 0

-- A declaration is valid: its code and names are not 0, its forms are supported, and its names are
-- distinct.
pub record IsValid (declaration : Declaration) : Type 0 where
  pub code : declaration.code ≢ 0
  pub named : All (λ attribute. attribute.name ≢ 0) declaration.attributes
  pub forms : All (λ attribute. IsSome (form_of attribute.form)) declaration.attributes
  pub once : AllPairs (λ a b. a.name ≢ b.name) declaration.attributes

-- A table is valid: its declarations are valid, and their codes are distinct.
pub record AreValid (table : List Declaration) : Type 0 where
  pub each : All IsValid table
  pub once : AllPairs (λ a b. a.code ≢ b.code) table
