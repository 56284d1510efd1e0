-- Attribute lists by their offset in `.debug_abbrev`.
use Rattle.std.specs.Prelude.{◌≡◌, ℕ, ◌<◌, List, [], ◌∷◌, ◌++◌, length, Option, None, Some, Result}
use Rattle.std.specs.Prelude.{Ok, Err, IfSome, MatchOption, false}
use Rattle.dwarf_bytes.specs.{declared.fault.Cause.Cause, Items.{Next, Item, End}}
use Rattle.dwarf_forms.specs.declared.attribute.AttributeSpecification.{AttributeSpecification}
use Rattle.dwarf_forms.specs.Tables.{attributes_at, shares_name}
use Rattle.abbreviation_memo.specs.declared.list_end.TheConstants.{UNSHARED}

-- the attributes of a list that is read; empty if it is invalid
abbrev pub listed : Result (List AttributeSpecification × ℕ) Cause → List AttributeSpecification
listed (Ok read) = read.0
listed (Err cause) = []

-- the attributes of the list at an offset
abbrev pub list_at : List ℕ → ℕ → List AttributeSpecification
list_at section at = listed (attributes_at section at)

-- a valid list is at the offset
abbrev pub IsListAt : List ℕ → ℕ → Type 0
IsListAt section at = (after : ℕ) × (attributes_at section at ≡ Ok (list_at section at, after))

-- the attributes from an optional offset on; empty if there is no offset
abbrev pub rest_attributes : List ℕ → Option ℕ → List AttributeSpecification
rest_attributes section None = []
rest_attributes section (Some at) = list_at section at

-- the first attribute of a list, if it has one, and the offset after it or after the list
abbrev pub first_of : Option AttributeSpecification → ℕ → Next AttributeSpecification
first_of None rest = End rest
first_of (Some attribute) rest = Item attribute rest

-- the attributes of a list with this first attribute and the others at an offset
abbrev pub list_from : List ℕ → Option AttributeSpecification → ℕ → List AttributeSpecification
list_from section None rest = []
list_from section (Some attribute) rest = attribute ∷ list_at section rest

-- The list at offset `place` starts with the attributes `first`. It ends before offset `at` if
-- `rest` is None, or else any list at `at` without their names continues it.
abbrev pub StartsList : List ℕ → ℕ → List AttributeSpecification → Option ℕ → ℕ → Type 0
StartsList section place first None at = attributes_at section place ≡ Ok (first, at)
StartsList section place first (Some _) at = (rest : List AttributeSpecification) (after : ℕ)
    → attributes_at section at ≡ Ok (rest, after) → shares_name first rest ≡ false
    → attributes_at section place ≡ Ok (first ++ rest, after)

-- A valid list starts with the attributes `first`, and the others are at offset `rest`. If there is
-- no such offset, the list has no others, and fewer than UNSHARED.
pub record StartsWith (section : List ℕ) (place : ℕ) (first : List AttributeSpecification)
    (rest : Option ℕ) : Type 0 where
  pub list : list_at section place ≡ first ++ rest_attributes section rest
  pub after : IfSome rest (IsListAt section)
  pub full : MatchOption rest (length first < UNSHARED) (λ _. length first ≡ UNSHARED)
