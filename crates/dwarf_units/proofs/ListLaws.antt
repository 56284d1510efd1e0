-- The stored attribute lists of declarations.
use Rattle.abbreviation_memo.specs.declared.list_end.TheConstants.{UNSHARED}
use Rattle.dwarf_units.proofs.Common
use Common.{AbbreviationDeclaration, AttributeSpecification, List, None, Option, Some, StartsWith}
use Common.{[], append-nil, arith, full_declaration, full_declarations, length, length-append}
use Common.{list_at, sum_by_push, unshared_count, ℕ, ◌++◌, ◌+◌, ◌∙◌, ◌∷◌, ◌≡◌}
use Rattle.dwarf_units.specs.AbbreviationTables.{unshared}
use Rattle.std.proofs.{Common.min, lemmas.List.map-append}

-- The first attributes of a stored list are its unshared ones.
pub first-unshared : (section : List ℕ) (place : ℕ) (first : List AttributeSpecification)
    (rest : Option ℕ) → StartsWith section place first rest
    → length first ≡ min (length (list_at section place)) UNSHARED
first-unshared section place first None is = grind (arith, is.list, is.full, append-nil first)
first-unshared section place first (Some at) is =
    grind (arith, is.list, is.full, length-append first (list_at section at))

-- A list with no others after its first attributes.
pub whole-list : (section : List ℕ) (place : ℕ) (first : List AttributeSpecification)
    → StartsWith section place first None → list_at section place ≡ first
whole-list section place first is = is.list ∙ append-nil first

-- The number of the unshared attributes with those of one more declaration.
pub count-more : (section : List ℕ) (ds : List AbbreviationDeclaration)
    (d : AbbreviationDeclaration) → unshared_count (full_declarations section (ds ++ d ∷ []))
    ≡ unshared_count (full_declarations section ds) + unshared (full_declaration section d)
count-more section ds d = rw (map-append (full_declaration section) ds (d ∷ []))
    (sum_by_push unshared (full_declarations section ds) (full_declaration section d))
