-- An entry with only some of its attributes stored.
use Rattle.dwarf_units.specs.{Attributes.is_used, Entries.{Die, Entry, value_of}}
use Rattle.dwarf_units.specs.StoredAttributes.{stored_attributes}
use Rattle.dwarf_units.specs.declared.attributes.Attribute.{Attribute}
use Rattle.dwarf_walk.specs.Private.Readers.{WalkState, after_die, after_node, die_at}
use Rattle.dwarf_walk.specs.Stored.{named_entry, root_entry}
use Rattle.std.proofs.Common.{Bool, List, [], arith, filter, is_some, not, refl, true, ℕ, ◌+◌, ◌∷◌}
use Rattle.std.{proofs.Common.◌≡◌, specs.Int.from_bool}

-- The value of an attribute is in a list of attributes with certain names, if its name is one.
value-kept : (p : ℕ → Bool) (xs : List Attribute) (name : ℕ) → p name ≡ true
    → value_of (filter (λ a. p a.name) xs) name ≡ value_of xs name
value-kept p [] name has = refl
value-kept p (a ∷ xs) name has = let rest = value-kept p xs name has in grind arith

-- The value of a used attribute is stored if used attributes are.
pub value-stored : (xs : List Attribute) (name : ℕ) → is_used name ≡ true
    → value_of (filter (λ a. is_used a.name) xs) name ≡ value_of xs name
value-stored xs name used = value-kept is_used xs name used

-- An entry with only its used attributes.
abbrev pub stored_die : Die → Die
stored_die die = record die { attributes = stored_attributes true die.attributes }

root-stored : (die : Die) → root_entry (stored_die die) ≡ root_entry die
root-stored die = grind (arith, value-stored die.attributes)

pub names_at-stored : (die : Die) → named_entry (stored_die die) ≡ named_entry die
names_at-stored die = grind (arith, value-stored die.attributes)

-- The state after an entry, given the state with its used attributes and the depth before its
-- children.
pub entry-added : (w kept : WalkState) (at depth tag : ℕ) (children : Bool) (all : List Attribute)
    → kept ≡ after_die w (die_at w at tag (stored_attributes (not (is_some w.root)) all))
    → depth ≡ kept.depth + from_bool children
    → record kept { depth = depth } ≡ after_node w at (Entry tag children all)
entry-added w kept at depth tag children all is deep =
    grind (arith, root-stored (die_at w at tag all), is, deep)
