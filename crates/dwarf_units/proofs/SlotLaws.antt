-- The used attributes of an entry: their names, adding attributes one by one, and their positions.
use Rattle.dwarf_units.proofs.Common
use Common.{Attribute, AttributeValue, Bool, List, None, Option, Some, Used, UsedName, UsedPosition}
use Common.{[], arith, attribute_in, attributes_in, drop, false, filter, find, get_or, is_used}
use Common.{length, map, name_of, named_attribute, number_in, option_map, refl, slot_of, sym, true}
use Common.{used_among, used_name, value_in, value_named, value_of, with_used, ℕ, ◌++◌, ◌<◌, ◌==◌}
use Common.{◌∙◌, ◌∷◌, ◌≡◌}
use Rattle.dwarf_bytes.specs.declared.form.Width.{Width}
use Rattle.dwarf_units.specs.Private.Slots.{AreSlots, in_slots, slot_value, used_in, value_in_slot}
use Rattle.dwarf_units.specs.Private.Slots.{value_of_slot}
use Rattle.dwarf_units.specs.declared.value_slot.ValueSlots.{ValueSlots}
use Rattle.dwarf_units.specs.declared.used_position.UsedValue.TheVariants as positions
use Rattle.std.proofs.{Math.ListN.set, lemmas.{Bool.eqb-true, List.{drop-drop, get_or-set_other}}}
use Rattle.std.{proofs.lemmas.List.{get_or-set_same, length-drop}, specs.List.list_all}
use Rattle.std.specs.{Option.option_or, Prelude.is_some}
use Rattle.dwarf_units.specs.{Attributes.used_attributes, Private.Names.used_names, Used.used_by}

-- ---- names, their codes and their slots

-- An element that is found has the property that is sought, and the property of all elements.
found-holds : {X : Type 0} (p q : X → Bool) (xs : List X) (x : X) → list_all q xs ≡ true
    → find p xs ≡ Some x → (p x ≡ true) × (q x ≡ true)
found-holds p q [] x all is = cc
found-holds p q (y ∷ ys) x all is = let rest = found-holds p q ys x in grind (arith, all, is, rest)

found-number : (number : ℕ) (name : UsedName) → used_name number ≡ Some name
    → number ≡ name_of name
found-number number name is = sym (eqb-true (name_of name) number
    (found-holds (λ n. name_of n == number) (λ _. true) used_names name refl is).0)

number-used : (name : UsedName) → is_used (name_of name) ≡ true
number-used name = grind arith

pub used-some : (a : Attribute) (name : UsedName) → used_name a.name ≡ Some name
    → filter (λ (b : Attribute). is_used b.name) (a ∷ []) ≡ named_attribute name a.value ∷ []
used-some a name is = rw (found-number a.name name is, number-used name) refl

pub some-used : (number : ℕ) (name : UsedName) → used_name number ≡ Some name
    → is_used number ≡ true
some-used number name is = rw (found-number number name is) (number-used name)

pub used-none : (number : ℕ) → used_name number ≡ None → is_used number ≡ false
used-none number none = by_row (find (λ row. number == row.0) used_attributes) refl
  where
    by_row : (found : Option (ℕ × List ℕ)) → find (λ row. number == row.0) used_attributes ≡ found
        → is_some (option_map (λ row. row.1) found) ≡ false
    by_row None is = refl
    by_row (Some row) is =
        let holds = found-holds (λ r. number == r.0) (λ r. is_some (used_name r.0))
        used_attributes row refl is in
        let same : number ≡ row.0 = eqb-true number row.0 holds.0 in
        let some : is_some (used_name number) ≡ true = rw same holds.1 in cc

pub same-slot : (m n : UsedName) → (slot_of m == slot_of n) ≡ (name_of m == name_of n)
same-slot m n = grind arith

-- ---- the value of each name

by-named : (value : UsedName → Option AttributeValue) (name : UsedName)
    → value_named name (used_by value) ≡ value name
by-named value name = grind arith

pub among-named : (name : UsedName) (attributes : List Attribute)
    → value_named name (used_among attributes) ≡ value_of attributes (name_of name)
among-named name attributes = grind arith

with-named : (u : Used) (xs : List Attribute) (name : UsedName) → value_named name (with_used u xs)
    ≡ option_or (value_named name u) (value_of xs (name_of name))
unfolding with_used
with-named u xs = by-named _

same-by : (v w : UsedName → Option AttributeValue) → ((name : UsedName) → v name ≡ w name)
    → used_by v ≡ used_by w
same-by v w same = grind (arith, same)

-- Two records with the same value for each name are equal.
same-used : (u v : Used) → ((name : UsedName) → value_named name u ≡ value_named name v) → u ≡ v
same-used u v same = same-by (λ name. value_named name u) (λ name. value_named name v) same

-- ---- lists of attributes

value-append : (xs ys : List Attribute) (name : ℕ)
    → value_of (xs ++ ys) name ≡ option_or (value_of xs name) (value_of ys name)
value-append [] ys name = refl
value-append (a ∷ xs) ys name = let rest = value-append xs ys name in grind arith

pub among-append : (xs ys : List Attribute) → with_used (used_among xs) ys ≡ used_among (xs ++ ys)
among-append xs ys = same-used _ _ (λ name. rw (
  with-named (used_among xs) ys name,
  among-named name xs,
  among-named name (xs ++ ys),
  value-append xs ys (name_of name),
) refl)

pub with_none : (u : Used) → with_used u [] ≡ u
with_none u = same-used _ _ (λ name. rw (with-named u [] name) (grind arith))

pub with_twice : (u : Used) (xs ys : List Attribute) → with_used (with_used u xs) ys
    ≡ with_used u (xs ++ ys)
with_twice u xs ys = same-used _ _ (λ name. grind (
  arith,
  with-named (with_used u xs) ys name,
  with-named u xs name,
  with-named u (xs ++ ys) name,
  value-append,
))

-- ---- adding one used attribute in its slot

slot-named : (has : List Bool) (values : List AttributeValue) (name : UsedName)
    → value_named name (in_slots has values) ≡ value_of_slot has values (slot_of name)
slot-named has values = by-named (λ name. value_of_slot has values (slot_of name))

-- The value of another name, or of the same name.
put-slot : (has : List Bool) (values : List AttributeValue) (value : AttributeValue)
    (slot other own number : ℕ) → slot < length has → slot < length values
    → get_or has slot false ≡ false → (slot == other) ≡ (own == number)
    → value_of_slot (set has slot true) (set values slot value) other
    ≡ option_or (value_of_slot has values other)
    (value_of (record { name = own; value = value } ∷ []) number)
put-slot has values value slot other own number within there free same =
    grind (
      arith,
      within,
      there,
      free,
      same,
      get_or-set_same has,
      get_or-set_same values,
      get_or-set_other,
    )

-- An attribute is stored in its empty slot.
pub put_is : (has : List Bool) (values : List AttributeValue) (name : UsedName)
    (value : AttributeValue) (slot : ℕ) → slot ≡ slot_of name → slot < length has
    → slot < length values → get_or has slot false ≡ false
    → in_slots (set has slot true) (set values slot value)
    ≡ with_used (in_slots has values) (named_attribute name value ∷ [])
put_is has values name value slot at within there free = same-used _ _ (λ x. rw (
  slot-named (set has slot true) (set values slot value) x,
  with-named (in_slots has values) (named_attribute name value ∷ []) x,
  slot-named has values x,
)
    (put-slot has values value slot (slot_of x) (name_of name) (name_of x) within there free
    (rw (← at) at (same-slot name x))))

-- An attribute whose slot has a value is not stored.
pub full_is : (has : List Bool) (values : List AttributeValue) (name : UsedName)
    (value : AttributeValue) (slot : ℕ) → slot ≡ slot_of name → get_or has slot false ≡ true
    → in_slots has values ≡ with_used (in_slots has values) (named_attribute name value ∷ [])
full_is has values name value slot at full = same-used _ _ (λ x. rw (
  with-named (in_slots has values) (named_attribute name value ∷ []) x,
  slot-named has values x,
)
    (grind (arith, full, at, same-slot name x)))

-- What adding one attribute needs.
pub ruleset add_steps = (put_is, full_is)

-- ---- the attributes of an entry at their positions

pub find-map : {X Y : Type 0} (f : X → Y) (p : X → Bool) (q : Y → Bool)
    → ((x : X) → q (f x) ≡ p x) → (xs : List X) → find q (map f xs) ≡ option_map f (find p xs)
find-map f p q same [] = refl
find-map f p q same (x ∷ xs) = let rest = find-map f p q same xs in grind (arith, same x)

-- The value of a name is the one at the first position in its slot.
value-at : (bytes : List ℕ) (first : ℕ) (n : UsedName) (used : List UsedPosition)
    → value_named n (used_among (attributes_in bytes first used))
    ≡ option_map (value_in bytes first) (find (λ p. slot_of p.name == slot_of n) used)
value-at bytes first n used = among-named n (attributes_in bytes first used)
    ∙ (rw (find-map (attribute_in bytes first) (λ p. slot_of p.name == slot_of n)
    (λ a. a.name == name_of n) (λ p. sym (same-slot p.name n)) used)
    (grind arith))

slot-small : (n : UsedName) → slot_of n < 13
slot-small n = grind arith

-- The slots of the positions have the used attributes at these positions.
pub slots-used : (used : List UsedPosition) (slots : ValueSlots) (bytes : List ℕ) (first : ℕ)
    → AreSlots used slots
    → used_in slots (drop first bytes) ≡ used_among (attributes_in bytes first used)
slots-used used slots bytes first are = same-used _ _
    (λ n. by-named (λ name. value_in_slot slots (drop first bytes) (slot_of name)) n
    ∙ are.each (slot_of n) (slot-small n) bytes first ∙ sym (value-at bytes first n used))

-- ---- the value in a slot

pub width_value : (width : Width) (form n : ℕ) (bytes : List ℕ) (first : ℕ)
    → slot_value (drop first bytes) (record { form = form; width = width; offset = n })
    ≡ record { form = form; number = number_in bytes first (positions.At n width) }
width_value width form n bytes first =
    rw (drop-drop n first bytes) (grind (arith, length-drop first bytes))
