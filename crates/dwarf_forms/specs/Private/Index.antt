-- The set that is used to look up names.
use Rattle.std.specs.{Prelude.{◌≡◌, ℕ, List, ◌==◌}, List.list_any, Ordering.nat_cmp}
use Rattle.std.specs.BTreeSet.{BTreeSet, contains}
use Rattle.dwarf_forms.specs.declared.attribute.AttributeSpecification.{AttributeSpecification}

-- the set contains the names of the attributes
abbrev pub ContainsNames : BTreeSet ℕ → List AttributeSpecification → Type 0
ContainsNames names attributes = (name : ℕ) → contains nat_cmp names name
    ≡ list_any (λ attribute. attribute.name == name) attributes
