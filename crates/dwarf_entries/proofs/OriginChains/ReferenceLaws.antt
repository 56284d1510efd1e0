-- The entry at an offset of .debug_info is found by its bit, in the unit that contains the offset.
use Rattle.dwarf_entries.proofs.Common
use Common.{slice_get_past, ◌≡◌, ◌⊎◌, inl, inr, ℕ, zero, suc, ◌+◌, ◌<◌, ◌≤◌, List, [], ◌∷◌, length}
use Common.{map, get_or, Bool, ◌==◌, refl, arith, Option, Some, None, Err, find, slice_get}
use Common.{option_map, option_or, slice_get-get_or, slice_get_within, AttributeValue, Die}
use Common.{RiseWithin, UnitEntries, Sections, CompilationUnit, Member, target_of}
use Common.{AreStored, member_in, Reference, ok_or, cases_lt, IsNonDecreasingBy, IsPartitionPoint}
use Common.{members_of, member_at, option_to_list, ne_eqb, find-append, DW_FORM_REF_ADDR}
use Common.{get_or_from_slice_get}
use Rattle.dwarf_entries.proofs.UnitPasses.PassLaws.{element}
use Rattle.dwarf_entries.proofs.UnitPasses.UnitLaws.{AreUnitsIn, dies-rise, stored-at, stored-for}

-- ---- the entry at an offset of a unit

abbrev pub is_at_offset : ℕ → Member → Bool
is_at_offset offset m = m.die.offset == offset

abbrev pub member_of : CompilationUnit → Die → Member
member_of u die = record { unit = u; die = die }

abbrev pub die_at : CompilationUnit → ℕ → Option Die
die_at u offset = find (λ die. die.offset == offset) u.dies

pub within-le : (from end : ℕ) (dies : List Die) → RiseWithin from end dies → from ≤ end
within-le from end [] h = h
within-le from end (die ∷ dies) h = grind (arith, h.0, within-le (suc die.offset) end dies h.1)

-- There is no entry of the unit outside its bounds.
none-outside : (from end : ℕ) (dies : List Die) (offset : ℕ) → RiseWithin from end dies
    → (offset < from) ⊎ (end ≤ offset) → find (λ die. die.offset == offset) dies ≡ None
none-outside from end [] offset h out = refl
none-outside from end (die ∷ dies) offset h out =
    let past = within-le (suc die.offset) end dies h.1 in
    grind (arith, h.0, none-outside (suc die.offset) end dies offset h.1)

find-map : {X Y : Type 0} (p : Y → Bool) (f : X → Y) (xs : List X)
    → find p (map f xs) ≡ option_map f (find (λ x. p (f x)) xs)
find-map p f [] = refl
find-map p f (x ∷ xs) = let rest = find-map p f xs in grind arith

-- The first entry at an offset in a unit or in the units after it.
pub find-units : (u : CompilationUnit) (us : List CompilationUnit) (offset : ℕ)
    → find (is_at_offset offset) (members_of (u ∷ us))
    ≡ option_or (option_map (member_of u) (die_at u offset))
    (find (is_at_offset offset) (members_of us))
find-units u us offset = rw (find-append, find-map) refl

-- The entry at an offset, in the unit at an index.
pub member-is : (us : List CompilationUnit) (n offset : ℕ) (u : CompilationUnit)
    → slice_get us n ≡ Some u → member_in us n offset
    ≡ ok_or (option_map (member_of u) (die_at u offset)) Reference
member-is us n offset u is = grind (arith, is, find-units u [] offset)

-- ---- the unit that contains an offset

-- If no other unit has the entry, it is looked up in the unit at an index.
only-in : (us : List CompilationUnit) (n offset : ℕ)
    → ((i : ℕ) (u : CompilationUnit) → slice_get us i ≡ Some u → (i ≡ n → ⊥)
    → die_at u offset ≡ None)
    → find (is_at_offset offset) (members_of us)
    ≡ find (is_at_offset offset) (members_of (option_to_list (slice_get us n)))
only-in [] n offset none = refl
only-in (u ∷ us) zero offset none =
    let rest = only-in us (length us) offset (λ i v found differs. none (suc i) v found
    (λ (e : suc i ≡ zero). cc)) in
    grind (arith, find-units, slice_get_past)
only-in (u ∷ us) (suc n) offset none =
    let rest = only-in us n offset (λ i v found differs. none (suc i) v found
    (λ (e : suc i ≡ suc n). differs (omega (arith, e)))) in
    grind (arith, find-units u us offset, none zero u refl (λ (e : zero ≡ suc n). cc))

module _ {s : Sections} {us : List CompilationUnit} (are : AreUnitsIn s us) where
  -- An entry at an offset within a unit is an entry of that unit.
  pub in-own : (n offset : ℕ) (u : CompilationUnit) → slice_get us n ≡ Some u
      → u.header.start ≤ offset → offset < u.header.end
      → find (is_at_offset offset) (members_of us) ≡ option_map (member_of u) (die_at u offset)
  in-own n offset u is low high =
      let only = only-in us n offset (λ i v found differs.
      none-outside v.header.start v.header.end v.dies offset (dies-rise (are.each_is i v found))
      (grind (arith, are.apart i n v u found is, are.apart n i u v is found))) in
      grind (arith, only, is, find-units u [] offset)

  -- ---- the stored units

  module _ (stored : List UnitEntries) (same : AreStored stored us) where
    ends-rise : IsNonDecreasingBy (λ (k : UnitEntries). k.header.end) stored
    ends-rise i j d le lt =
        let a = stored-at stored us same i (get_or stored i d)
        (slice_get-get_or stored i d (omega (arith, le, lt))) in
        let b = stored-at stored us same j (get_or stored j d) (slice_get-get_or stored j d lt) in
        let bounds = (are.each_is j b.unit b.is).bounds in
        grind (arith, a.stored, b.stored, a.is, b.is, bounds.first, bounds.last)

    pub anywhere : (n offset : ℕ) → (IsNonDecreasingBy (λ (k : UnitEntries). k.header.end) stored
        → IsPartitionPoint (λ (k : UnitEntries). k.header.end ≤ offset)
        (λ (k : UnitEntries). offset < k.header.end) stored n)
        → member_in us n offset ≡ member_at (members_of us) offset
    anywhere n offset search_is =
        let parts = search_is ends-rise in
        let only = only-in us n offset (λ i v found differs.
        let k = stored-for stored us same i v found in
        let within = slice_get_within stored i k.0 k.1 in
        let here = get_or_from_slice_get stored i k.0 k.0 k.1 in
        none-outside v.header.start v.header.end v.dies offset (dies-rise (are.each_is i v found))
        (elim (cases_lt i n) [
          | inl lt ↦ inr (grind (arith, parts.0 i k.0, k.2))
          | inr ge ↦ (let last = element stored n (omega (arith, ge, within)) in
              let x = stored-at stored us same n last.0 last.1 in
              let end = get_or_from_slice_get stored n last.0 last.0 last.1 in
              inl (grind (arith, parts.1 n last.0, x.stored)))
        ])) in
        rw only refl

  -- An offset within a unit.
  pub in-bounds : (n offset : ℕ) (u : CompilationUnit) → slice_get us n ≡ Some u
      → u.header.start ≤ offset → offset < u.header.end
      → member_in us n offset ≡ member_at (members_of us) offset
  in-bounds n offset u is low high =
      grind (arith, in-own n offset u is low high, member-is us n offset u is)

  -- An offset outside the unit in which it is looked up.
  pub outside : (n offset : ℕ) (u : CompilationUnit) → slice_get us n ≡ Some u
      → (offset < u.header.start) ⊎ (u.header.end ≤ offset) → member_in us n offset ≡ Err Reference
  outside n offset u is out =
      let none = none-outside u.header.start u.header.end u.dies offset
      (dies-rise (are.each_is n u is)) out in
      grind (arith, member-is us n offset u is)

pub within-unit : (us : List CompilationUnit) (n offset : ℕ) (u : CompilationUnit)
    (reference : AttributeValue) → (reference.form ≡ DW_FORM_REF_ADDR → ⊥)
    → slice_get us n ≡ Some u → offset ≡ u.header.start + reference.number
    → member_in us n offset ≡ target_of us u reference
within-unit us n offset u reference form at place = grind (arith, ne_eqb)
