-- The loop that follows an origin chain, the names that it finds, and the cache of the names of
-- reference targets.
use Rattle.dwarf_entries.proofs.Common
use Common.{AreFirst, AttributeValue, Cause, CompilationUnit, DW_AT_LINKAGE_NAME, DW_AT_NAME}
use Common.{EntryNames, Err, Finds, FindsFirst, FirstNames, IsCacheOf, IsFirst, IsMember, IsPlaceOf}
use Common.{List, Member, NameCache, NamedEntry, None, Ok, Option, OriginDepth, Reference, Result}
use Common.{Sections, Some, UnitAttribute, UnitEntry, UnitPlace, [], ap, append_assoc}
use Common.{arith, attribute, chain_within, common_steps, first_on, if◌then◌else◌, is_some}
use Common.{member_at, members_of, name_on, names_of, next_of, of_member, or_else, references_limit}
use Common.{refl, same_Some, second_names, slice_get, slot_at, slot_of, suc, sym, target_names}
use Common.{target_of, ℕ, ◌++◌, ◌+◌, ◌-◌, ◌==◌, ◌>>=◌, ◌∷◌, ◌≡◌}

-- ---- the first attribute with a name

first_on-push : (name : ℕ) (path : List Member) (m : Member) → first_on name (path ++ m ∷ [])
    ≡ or_else (first_on name path) (of_member name m)
first_on-push name [] m = grind arith
first_on-push name (p ∷ path) m = let rest = first_on-push name path m in grind arith

-- The first attribute, after one more entry is appended.
pub first_more : (units : List CompilationUnit) (name unit : ℕ) (path : List Member) (m : Member)
    (known : UnitAttribute) (value : Option AttributeValue)
    → slice_get units unit ≡ Some m.unit → value ≡ attribute m.die name
    → IsFirst units known (first_on name path) → IsFirst units
    (if is_some known.value then known else record { unit = unit; value = value })
    (first_on name (path ++ m ∷ []))
first_more units name unit path m known value is value_is so_far =
    let push = first_on-push name path m in grind arith

-- ---- the loop

-- Prepends these entries to an origin chain.
abbrev pub prepend : List Member → Result (List Member) Cause → Result (List Member) Cause
prepend before r = r >>= λ rest. Ok (before ++ rest)

-- The loop invariant: the entries of the chain up to the last one, and the first names among them.
pub record Followed (units : List CompilationUnit) (remaining : ℕ) (m : Member) (left : ℕ)
    (found : UnitEntry) (firsts : FirstNames) : Type 0 where
  pub before : List Member
  pub last : Member
  pub at : IsMember units found.unit found.entry last
  pub rest : chain_within remaining units m ≡ prepend before (chain_within left units last)
  pub stored : AreFirst units firsts (before ++ last ∷ [])

-- The origin chain of an entry with a reference, if one more reference may be followed.
pub stepped : (units : List CompilationUnit) (after : ℕ) (last : Member)
    (reference : AttributeValue) → next_of last.die ≡ Some reference
    → chain_within (suc after) units last
    ≡ (target_of units last.unit reference
    >>= λ next. prepend (last ∷ []) (chain_within after units next))
unfolding chain_within
stepped units after last reference is = rw (is, chain_within) refl

pub followed-none : {units : List CompilationUnit} {remaining : ℕ} {m : Member}
    {found : UnitEntry} {firsts : FirstNames} → IsMember units found.unit found.entry m
    → AreFirst units firsts (m ∷ []) → Followed units remaining m remaining found firsts
followed-none {m = m} at stored =
    record { before = []; last = m; at = at; rest = grind arith; stored = stored }

module _ {units : List CompilationUnit} {remaining : ℕ} {m : Member} {left : ℕ} {found : UnitEntry}
    {firsts : FirstNames} (so_far : Followed units remaining m left found firsts) where
  next-is : next_of so_far.last.die ≡ found.entry.next
  next-is = sym (ap (λ (e : NamedEntry). e.next) so_far.at.entry_is)

  pub followed-end : found.entry.next ≡ None
      → FindsFirst units (Ok firsts) (chain_within remaining units m)
  unfolding chain_within
  followed-end is =
      let path : List Member = so_far.before ++ so_far.last ∷ [] in
      (path, grind (arith, so_far.rest, next-is, chain_within), so_far.stored)

  module _ (reference : AttributeValue) (is : found.entry.next ≡ Some reference) where
    pub followed-deep : left ≡ 0 → chain_within remaining units m ≡ Err OriginDepth
    unfolding chain_within
    followed-deep none = grind (arith, so_far.rest, next-is, chain_within)

    module _ (to : Option UnitPlace) (finds : (u : CompilationUnit) → slice_get units found.unit
        ≡ Some u → Finds units to (target_of units u reference)) where
      -- The member at the target.
      pub target-there : (place : UnitPlace) → to ≡ Some place
          → (n : Member) × (target_of units so_far.last.unit reference ≡ Ok n)
          × IsPlaceOf units place n
      target-there place there = (rw there at finds) so_far.last.unit so_far.at.unit_is

      pub followed-lost : (left ≡ 0 → ⊥) → to ≡ None
          → chain_within remaining units m ≡ Err Reference
      followed-lost some none =
          let step = stepped units (left - 1) so_far.last reference in
          grind (arith, so_far.rest, next-is)

      pub followed-next : (after : ℕ) (place : UnitPlace) (next : UnitEntry) (more : FirstNames)
          → after + 1 ≡ left → to ≡ Some place
          → ((n : Member) → IsPlaceOf units place n → IsMember units next.unit next.entry n)
          → ((path : List Member) (n : Member) → AreFirst units firsts path
          → IsMember units next.unit next.entry n → AreFirst units more (path ++ n ∷ []))
          → Followed units remaining m after next more
      followed-next after place next more left_is there again longer =
          let n = target-there place there in
          let step = stepped units after so_far.last reference in
          record {
            before = so_far.before ++ so_far.last ∷ [];
            last = n.0;
            at = again n.0 n.2;
            rest = grind (arith, so_far.rest, next-is, n.1, append_assoc);
            stored = longer (so_far.before ++ so_far.last ∷ []) n.0 so_far.stored (again n.0 n.2);
          }

-- ---- the cached names

-- The cache remains valid after the names of one more entry are added.
pub cache-more : (s : Sections) (units : List CompilationUnit) (old new : NameCache)
    (offset : ℕ) (names : EntryNames) → IsCacheOf s units old
    → ((slot : ℕ) → slot_at new slot ≡ if slot == slot_of offset then
    Some (record { offset = offset; names = names }) else slot_at old slot)
    → (member_at (members_of units) offset >>= λ m. second_names s units m) ≡ Ok names
    → IsCacheOf s units new
cache-more s units old new offset names knew put read slot packed is =
    grind (arith, common_steps, same_Some)

-- ---- the names of an entry that has no name of its own

abbrev on_path : Sections → List Member → Result EntryNames Cause
on_path s path = name_on DW_AT_NAME s path >>= λ name. name_on DW_AT_LINKAGE_NAME s path
    >>= λ linkage_name. Ok (record { name = name; linkage_name = linkage_name })

-- If the program stores no name in an entry, the names are those of the target of its reference.
pub names-by-reference : (s : Sections) (units : List CompilationUnit) (number : ℕ)
    (entry : NamedEntry) (m : Member) (reference : AttributeValue) → IsMember units number entry m
    → (entry.next ≡ Some reference) × (entry.name ≡ None) × (entry.linkage_name ≡ None)
    → names_of s units m ≡ target_names s units m.unit reference
names-by-reference s units number entry m reference at parts =
    let stored = rw at.entry_is at parts in
    let remaining : references_limit ≡ suc 15 = omega arith in
    rw (remaining, stepped units 15 m reference stored.0)
    (by_target stored.1 stored.2 (target_of units m.unit reference) (chain_within 15 units))
  where
    by_target : attribute m.die DW_AT_NAME ≡ None → attribute m.die DW_AT_LINKAGE_NAME ≡ None
        → (t : Result Member Cause) (chain : Member → Result (List Member) Cause)
        → ((t >>= λ n. prepend (m ∷ []) (chain n)) >>= λ path. on_path s path)
        ≡ (t >>= λ n. chain n >>= λ path. on_path s path)
    by_target no_name no_linkage_name t chain = grind arith
