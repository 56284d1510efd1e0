-- The iterations of the loops that look up entries and follow origin chains.
use Rattle.std.proofs.Common.{◌≡◌, ℕ, ◌+◌, ◌<◌, ◌≤◌, List, [], ◌∷◌, ◌++◌, length, drop, refl}
use Rattle.std.proofs.Common.{arith, append_assoc, get_or, Some, None, Result, Ok, Err}
use Rattle.std.proofs.Common.{option_map}
use Rattle.std.proofs.lemmas.List.{drop_more, drop_all}
use Rattle.std.specs.List.{find}
use Rattle.dwarf_bytes.specs.{declared.fault.Cause.Cause, Bind.◌>>=◌}
use Rattle.dwarf_units.specs.declared.attributes.AttributeValue.{AttributeValue}
use Rattle.dwarf_walk.specs.References.{next_of}
use Rattle.dwarf_entries.specs.Names.{Member, member_at, members_of, chain_within, target_of}
use Rattle.dwarf_entries.specs.Units.{CompilationUnit}
use Rattle.dwarf_entries.proofs.OriginChains.ReferenceLaws.{is_at_offset, member_of, die_at}
use Rattle.dwarf_entries.proofs.OriginChains.ReferenceLaws.{find-units}
use Rattle.dwarf_entries.proofs.OriginChains.ChainLaws.{prepend, stepped}
use Rattle.dwarf_bytes.specs.declared.fault.Cause.TheVariants.{OriginDepth, Reference}

-- The element at an index is the first of the rest.
pub element-here : {X : Type 0} (xs : List X) (i : ℕ) (x : X) → i < length xs → x ≡ get_or xs i x
    → drop i xs ≡ x ∷ drop (i + 1) xs
element-here xs i x within is = let more = drop_more xs i x within in cc

-- ---- the entry at an offset

-- No unit before an index has an entry at the offset.
pub record NoneBefore (us : List CompilationUnit) (offset index : ℕ) : Type 0 where
  pub found : find (is_at_offset offset) (members_of us)
      ≡ find (is_at_offset offset) (members_of (drop index us))

pub none-before : {us : List CompilationUnit} {offset : ℕ} → NoneBefore us offset 0
none-before = record { found = refl }

module _ {us : List CompilationUnit} {offset index : ℕ} (so_far : NoneBefore us offset index)
    (u : CompilationUnit) (here : drop index us ≡ u ∷ drop (index + 1) us) where
  pub unit-without : option_map (member_of u) (die_at u offset) ≡ None
      → NoneBefore us offset (index + 1)
  unit-without none = record {
    found = grind (arith, so_far.found, find-units u (drop (index + 1) us) offset);
  }

  pub unit-with : (m : Member) → option_map (member_of u) (die_at u offset) ≡ Some m
      → member_at (members_of us) offset ≡ Ok m
  unit-with m is = grind (arith, so_far.found, find-units u (drop (index + 1) us) offset)

pub no-unit : {us : List CompilationUnit} {offset index : ℕ} → NoneBefore us offset index
    → length us ≤ index → member_at (members_of us) offset ≡ Err Reference
no-unit {us} {offset} {index} so_far past = grind (arith, so_far.found, drop_all index us past)

-- ---- origin chains

prepend-next : (path : List Member) (m : Member) (rest : Result (List Member) Cause)
    → prepend path (prepend (m ∷ []) rest) ≡ prepend (path ++ m ∷ []) rest
prepend-next path m (Ok later) = rw (append_assoc path (m ∷ []) later) refl
prepend-next path m (Err cause) = refl

prepend-none : (rest : Result (List Member) Cause) → rest ≡ prepend [] rest
prepend-none (Ok later) = refl
prepend-none (Err cause) = refl

-- The entries of a chain before its last one so far, which may follow `left` references.
pub record ChainSoFar (units : List CompilationUnit) (limit : ℕ) (start : Member) (left : ℕ)
    (path : List Member) (m : Member) : Type 0 where
  pub rest : chain_within limit units start ≡ prepend path (chain_within left units m)

pub chain-none : {units : List CompilationUnit} {limit : ℕ} {start : Member}
    → ChainSoFar units limit start limit [] start
chain-none {units} {limit} {start} =
    record { rest = prepend-none (chain_within limit units start) }

module _ {units : List CompilationUnit} {limit : ℕ} {start : Member} {left : ℕ}
    {path : List Member} {m : Member} (so_far : ChainSoFar units limit start left path m) where
  pub chain-end : next_of m.die ≡ None → chain_within limit units start ≡ Ok (path ++ m ∷ [])
  unfolding chain_within
  chain-end none = grind (arith, so_far.rest, chain_within)

  module _ (reference : AttributeValue) (is : next_of m.die ≡ Some reference) where
    pub chain-deep : left ≡ 0 → chain_within limit units start ≡ Err OriginDepth
    unfolding chain_within
    chain-deep none = grind (arith, so_far.rest, chain_within)

    pub chain-next : (after : ℕ) (next : Member) → after + 1 ≡ left
        → target_of units m.unit reference ≡ Ok next
        → ChainSoFar units limit start after (path ++ m ∷ []) next
    chain-next after next left_is there =
        let step = stepped units after m reference is in
        let more = prepend-next path m (chain_within after units next) in
        record { rest = grind (arith, so_far.rest) }

    pub chain-lost : (after : ℕ) (cause : Cause) → after + 1 ≡ left
        → target_of units m.unit reference ≡ Err cause
        → chain_within limit units start ≡ Err cause
    chain-lost after cause left_is lost =
        let step = stepped units after m reference is in
        grind (arith, so_far.rest)
