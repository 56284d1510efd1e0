-- Reading the attributes of an entry one by one, and storing the used ones.
use Rattle.dwarf_units.proofs.Common
use Common.{Attribute, AttributeSpecification, Bool, Cause, Format, List, None-from-no-Some, Ok}
use Common.{Result, Some, Used, UsedName, [], arith, attribute_at, attributes_at, common_steps}
use Common.{is_used, named_attribute, refl, stored_attributes, stored_attributes_at, sym, then_read}
use Common.{true, used_after, used_among, used_name, with_used, ℕ, ◌++◌, ◌>>=◌, ◌∷◌, ◌≡◌}
use Rattle.dwarf_units.proofs.SlotLaws.{used-none, used-some, with_none, with_twice}
use Rattle.std.proofs.lemmas.List.Elements.{filter-append}

-- ---- two lists of attributes

-- Attributes before the attributes of another read.
abbrev pub with_front : List Attribute → List Attribute × ℕ → Result (List Attribute × ℕ) Cause
with_front front rest = Ok (front ++ rest.0, rest.1)

-- One attribute before the attributes of another read.
abbrev pub with_first : Attribute → List Attribute × ℕ → Result (List Attribute × ℕ) Cause
with_first a rest = Ok (a ∷ rest.0, rest.1)

-- All attributes if they are stored, otherwise none.
abbrev pub stored_all : Bool → List Attribute × ℕ → Result (List Attribute × ℕ) Cause
stored_all keep all = Ok (stored_attributes keep all.0, all.1)

-- The used ones of the stored attributes.
abbrev pub used_all : List Attribute × ℕ → Result (Used × ℕ) Cause
used_all stored = Ok (used_among stored.0, stored.1)

pub front-none : (r : Result (List Attribute × ℕ) Cause) → (r >>= with_front []) ≡ r
front-none r = grind arith

attributes-append : (format : Format) (xs ys : List AttributeSpecification) (bytes : List ℕ)
    (at : ℕ) → attributes_at format (xs ++ ys) bytes at
    ≡ (attributes_at format xs bytes at
    >>= λ first. attributes_at format ys bytes first.1 >>= with_front first.0)
unfolding attributes_at
attributes-append format [] ys bytes at = sym (front-none (attributes_at format ys bytes at))
attributes-append format (x ∷ xs) ys bytes at = after-first (attribute_at format x bytes at)
    (attributes_at format (xs ++ ys) bytes) (attributes_at format xs bytes)
    (attributes_at format ys bytes) (attributes-append format xs ys bytes)
  where
    after-first : (r : Result (Attribute × ℕ) Cause)
        (both front back : ℕ → Result (List Attribute × ℕ) Cause)
        → ((k : ℕ) → both k ≡ (front k >>= λ first. back first.1 >>= with_front first.0))
        → (r >>= λ a. both a.1 >>= with_first a.0) ≡ ((r >>= λ a. front a.1 >>= with_first a.0)
        >>= λ first. back first.1 >>= with_front first.0)
    after-first r both front back is = grind (arith, is)

pub stored-both : (keep : Bool) (xs ys : List Attribute)
    → stored_attributes keep (xs ++ ys) ≡ stored_attributes keep xs ++ stored_attributes keep ys
stored-both keep xs ys = grind (arith, filter-append (λ (a : Attribute). is_used a.name) xs ys)

-- The stored attributes of two lists.
pub stored-append : (keep : Bool) (format : Format) (xs ys : List AttributeSpecification)
    (bytes : List ℕ) (at : ℕ) → stored_attributes_at keep format (xs ++ ys) bytes at
    ≡ then_read (stored_attributes_at keep format xs bytes at)
    (λ place. stored_attributes_at keep format ys bytes place)
stored-append keep format xs ys bytes at =
    rw (attributes-append format xs ys bytes at) (grind (arith, stored-both keep))

-- The used attributes of two reads, after those that are stored already.
pub used_both : (u : Used) (r : Result (List Attribute × ℕ) Cause)
    (next : ℕ → Result (List Attribute × ℕ) Cause) → used_after u (then_read r next)
    ≡ (used_after u r >>= λ first. used_after first.0 (next first.1))
used_both u r next = grind (arith, with_twice u)

-- An attribute is read, and then the others.
pub first_read : (keep : Bool) (format : Format) (s : AttributeSpecification)
    (others : List AttributeSpecification) (bytes : List ℕ) (place : ℕ) (u : Used)
    → used_after u (stored_attributes_at keep format (s ∷ others) bytes place)
    ≡ (used_after u (stored_attributes_at keep format (s ∷ []) bytes place)
    >>= λ first. used_after first.0 (stored_attributes_at keep format others bytes first.1))
first_read keep format s others bytes place u =
    rw (stored-append keep format (s ∷ []) others bytes place)
    (used_both u (stored_attributes_at keep format (s ∷ []) bytes place)
    (stored_attributes_at keep format others bytes))

-- ---- one attribute or none

pub attributes_none : (format : Format) (bytes : List ℕ) (at : ℕ)
    → attributes_at format [] bytes at ≡ Ok ([], at)
unfolding attributes_at
attributes_none format bytes at = refl

-- One attribute is read, and is stored if it is used.
pub one-read : (keep : Bool) (format : Format) (s : AttributeSpecification) (bytes : List ℕ)
    (at : ℕ) (r : Result (Attribute × ℕ) Cause) → attribute_at format s bytes at ≡ r
    → stored_attributes_at keep format (s ∷ []) bytes at
    ≡ (r >>= λ a. Ok (stored_attributes keep (a.0 ∷ []), a.1))
unfolding attributes_at
one-read keep format s bytes at r is = rw is (grind arith)

-- The attribute is stored under its name if it is used.
pub one-stored : (keep : Bool) (format : Format) (s : AttributeSpecification) (bytes : List ℕ)
    (at : ℕ) (used : Used) (name : UsedName) (a : Attribute × ℕ) → keep ≡ true
    → used_name a.0.name ≡ Some name → attribute_at format s bytes at ≡ Ok a
    → used_after used (stored_attributes_at keep format (s ∷ []) bytes at)
    ≡ Ok (with_used used (named_attribute name a.0.value ∷ []), a.1)
one-stored keep format s bytes at used name a kept is read =
    rw (kept, one-read true format s bytes at (Ok a) read, used-some a.0 name is) refl

-- What the reads of an entry need.
pub ruleset read_steps = (common_steps, used_both, with_none, with_twice)

-- What the reads of a shared list need.
pub ruleset list_reads = (attributes_none, first_read, with_none)

-- What the read of one attribute needs.
pub ruleset one_steps = (one-read, one-stored, used-none, with_none, None-from-no-Some)
