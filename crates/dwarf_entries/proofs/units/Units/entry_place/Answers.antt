use Rattle.dwarf_entries.proofs
use proofs.{Bool, CompilationUnit, Die, Err, Finds, List, None, Option, Reference, Some, UnitPlace}
use proofs.{[], all_offsets, arith, die_at, eqb-true, find, find-units, find_at, is_at_offset}
use proofs.{is_some, list_any, list_any-append, member-is, member_in, member_of, members_of}
use proofs.{offsets_of, ok_or, option_map, refl, seen, slice_get, true, ℕ, ◌==◌, ◌∷◌, ◌≡◌}
use Rattle.dwarf_entries.proofs.units.Units.entry_place.Goals as goal

any-dies : (u : CompilationUnit) (offset : ℕ) (dies : List Die)
    → list_any (λ place. place == offset) (offsets_of dies)
    ≡ is_some (option_map (member_of u) (find (λ die. die.offset == offset) dies))
any-dies u offset [] = refl
any-dies u offset (die ∷ dies) = grind (arith, any-dies u offset dies)

any-members : (offset : ℕ) (us : List CompilationUnit)
    → list_any (λ place. place == offset) (all_offsets us)
    ≡ is_some (find (is_at_offset offset) (members_of us))
any-members offset [] = refl
any-members offset (u ∷ us) =
    grind (arith, list_any-append, any-dies, find-units, any-members offset us)

-- The element that is found passes the test.
found-passes : (p : Die → Bool) (dies : List Die) (die : Die) → find p dies ≡ Some die
    → p die ≡ true
found-passes p [] die h = cc
found-passes p (d ∷ dies) die h = let rest = found-passes p dies die in grind arith

-- An entry that is found in the unit of a place is at the place.
finds-die : (us : List CompilationUnit) (place : UnitPlace) (u : CompilationUnit)
    → slice_get us place.unit ≡ Some u → (die : Option Die) → die_at u place.offset ≡ die
    → member_in us place.unit place.offset ≡ ok_or (option_map (member_of u) die) Reference
    → (member_in us place.unit place.offset ≡ Err Reference → ⊥)
    → Finds us (Some place) (member_in us place.unit place.offset)
finds-die us place u of None here outcome some = absurd (some outcome)
finds-die us place u of (Some d) here outcome some = grind (arith, eqb-true, found-passes, find_at)

finds-place : (us : List CompilationUnit) (place : UnitPlace) (u : Option CompilationUnit)
    → slice_get us place.unit ≡ u → (member_in us place.unit place.offset ≡ Err Reference → ⊥)
    → Finds us (Some place) (member_in us place.unit place.offset)
finds-place us place None of some = absurd (some (rw of refl))
finds-place us place (Some u) of some = finds-die us place u of (die_at u place.offset) refl
    (member-is us place.unit place.offset u of) some

pub returns-then-not-has_entry : goal.returns-then-not-has_entry
returns-then-not-has_entry c =
    let are = seen c.self.invariant c.self.view_is in
    grind (arith, are.bitmap_is c.args.offset, any-members c.args.offset c.args.self.now.units)

pub returns : goal.returns
returns c =
    let are = seen c.self.invariant c.self.view_is in
    let us = c.args.self.now.units in
    let place : UnitPlace = record { unit = c.unit_of-unit.result; offset = c.args.offset } in
    rw (← c.unit_of-unit.ensures) (finds-place us place (slice_get us place.unit) refl
    (λ lost. grind (
      arith,
      c.unit_of-unit.ensures,
      lost,
      are.bitmap_is c.args.offset,
      any-members c.args.offset us,
    )))
