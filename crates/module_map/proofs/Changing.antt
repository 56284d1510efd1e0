-- The effect of a change of the sorted modules on the world.
use Rattle.std.proofs.Common.{◌≡◌, ℕ, ◌-◌, ◌^◌, ◌<◌, ◌≤◌, Bool, true, false, List, length, map}
use Rattle.std.proofs.Common.{get_or, refl, sym, ap, ◌∙◌, subst}
use Rattle.std.specs.Prelude.{None, Some, Ok, Err, is_some, position, find, remove, nat_le}
use Rattle.std.specs.Prelude.{if◌then◌else◌}
use Rattle.module_map.specs.World.{World, Loaded, start_of, end_of, is_named, moved_to}
use Rattle.module_map.specs.World.{insert_by_address}
use Rattle.module_map.specs.World.{without}
use Rattle.module_map.specs.Changes.{place_fault, move_fault, IsMoved, IsExtentOf, Unloads, Moves}
use Rattle.module_map.specs.declared.faults.Extent.{Extent}
use Rattle.module_map.specs.declared.faults.MapFault.{MapFault}
use Rattle.module_map.specs.declared.faults.MapFault.TheVariants.{NoModule, Range, Overlap}
use Rattle.module_map.specs.Private.Serials.{NumberedModule, loaded_of}
use Rattle.module_map.specs.Private.Rising.{IsClear, Overlaps, IsOther, IsOnly, relocated, rebased}
use Rattle.module_map.proofs.Removals.{clear_removed}
use Rattle.module_map.proofs.Worlds.{any_is, found_none, found_some, insert-clear, without-is}
use Rattle.module_map.proofs.Worlds.{not-named, is-its-name, met_is, nothing_met, range-fault}
use Rattle.module_map.proofs.Worlds.{overlap-fault, no_place-fault}

-- the world of sorted modules
abbrev pub world_of : List NumberedModule → ℕ → World
world_of hs loads = record { modules = map loaded_of hs; loads = loads }

abbrev pub named : List ℕ → NumberedModule → Bool
named name h = is_named name h.loaded

module _ (hs : List NumberedModule) (loads : ℕ) (name : List ℕ) where
  pub not_there : position (named name) hs ≡ None
      → Unloads (world_of hs loads) name (Err NoModule) (world_of hs loads)
  not_there e = (sym (any_is (is_named name) hs) ∙ ap is_some e, refl, refl)

  pub unloaded : (hs' : List NumberedModule) (own : ℕ) → position (named name) hs ≡ Some own
      → IsOnly hs name own → hs' ≡ remove hs own
      → Unloads (world_of hs loads) name (Ok tt) (world_of hs' loads)
  unloaded hs' own e only is = (
    sym (any_is (is_named name) hs) ∙ ap is_some e,
    ap (λ (l : List Loaded). record { modules = l; loads = loads })
        (ap (map loaded_of) is ∙ sym (without-is name hs own only)),
  )

  pub not_moved : (base : ℕ) → position (named name) hs ≡ None
      → Moves (world_of hs loads) name base (Err NoModule) (world_of hs loads)
  not_moved base e = (
    ap (λ o. move_fault o (world_of hs loads) base)
        (found_none (is_named name) hs e),
    refl,
  )

  module _ (base own : ℕ) (d : NumberedModule) (at_own : position (named name) hs ≡ Some own)
      (only : IsOnly hs name own) where
    abbrev m : Loaded
    m = moved_to base (get_or hs own d).loaded

    its_name : (e : NumberedModule) → own < length hs → is_named m.name (get_or hs own e).loaded
        ≡ true
    its_name e lt = is-its-name m.name (get_or hs own e) (only.here e ∙ sym (only.here d))

    other_names : (k : ℕ) (e : NumberedModule) → k < length hs → IsOther own k
        → is_named m.name (get_or hs k e).loaded ≡ false
    other_names k e lt o = not-named m.name (get_or hs k e)
        (λ same. only.others k e lt o (same ∙ only.here d))

    refused : (fault : MapFault) → place_fault m (map loaded_of hs) ≡ Some fault
        → Moves (world_of hs loads) name base (Err fault) (world_of hs loads)
    refused fault e = (
      ap (λ o. move_fault o (world_of hs loads) base)
          (found_some (is_named name) hs own d at_own) ∙ e,
      refl,
    )

    pub moved_past : 2 ^ 64 ≤ end_of m → Moves (world_of hs loads) name base (Err Range)
        (world_of hs loads)
    moved_past le = refused Range (range-fault m (map loaded_of hs) le)

    pub moved_over : (met : ℕ) → end_of m < 2 ^ 64 → Overlaps hs own (start_of m) (end_of m) met
        → Moves (world_of hs loads) name base (Err (Overlap met)) (world_of hs loads)
    moved_over met lt is = refused (Overlap met)
        (overlap-fault m (map loaded_of hs) met lt (met_is hs own m its_name other_names met is))

    pub moved_into : (hs' : List NumberedModule) (at : ℕ) (extent : Extent) → end_of m < 2 ^ 64
        → start_of m < end_of m
        → IsClear hs own (start_of m) (end_of m) at → IsExtentOf extent m
        → hs' ≡ relocated hs own at (rebased base (get_or hs own d))
        → Moves (world_of hs loads) name base (Ok extent) (world_of hs' loads)
    moved_into hs' at extent lt order clear lies is = (
      ap (λ o. move_fault o (world_of hs loads) base) found
          ∙ no_place-fault m (map loaded_of hs) lt
          (nothing_met hs own m its_name other_names at clear),
      subst (λ o. IsMoved (world_of hs loads) o base extent (world_of hs' loads)) (sym found) (
        lies,
        ap (λ (l : List Loaded). record { modules = l; loads = loads })
            (ap (map loaded_of) is ∙ sym there),
      ),
    )
      where
        found : find (is_named name) (map loaded_of hs) ≡ Some (get_or hs own d).loaded
        found = found_some (is_named name) hs own d at_own

        there : insert_by_address m (without (get_or hs own d).loaded.name (map loaded_of hs))
            ≡ map loaded_of (relocated hs own at (rebased base (get_or hs own d)))
        there = ap (λ (n : List ℕ). insert_by_address m (without n (map loaded_of hs)))
            (only.here d)
            ∙ ap (insert_by_address m) (without-is name hs own only)
            ∙ insert-clear (remove hs own) (if nat_le at own then at else at - 1)
            (rebased base (get_or hs own d))
            (clear_removed hs own (start_of m) (end_of m) at clear only.within) order
