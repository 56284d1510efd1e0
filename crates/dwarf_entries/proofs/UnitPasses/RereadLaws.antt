-- Re-reading the entries of a unit at their offsets, and the scope sites of a unit from its stored
-- data.
use Rattle.dwarf_entries.proofs.Common
use Common.{AreStored, CompilationUnit, Die, IsPlaceOf, List, Member, Ok, ScopePlace, ScopeSite}
use Common.{Sections, Some, UnitEntries, UnitHeader, UnitPlace, [], arith, entries_again, entry_at}
use Common.{get_or, get_or-map, get_or_from_slice_get, inside-is, length, length-map, map}
use Common.{named_entry, named_entry_at, names_at-stored, refl, scope_entry, scope_entry_at}
use Common.{scope_places, sites_in, slice_get, slice_get_within, stored_attributes, stored_of}
use Common.{stored_unit_of, take, true, uleb-moves, used_at, value-stored, ℕ, ◌∷◌, ◌≡◌}
use Rattle.dwarf_entries.proofs.{ScopePasses.SiteLaws.site-in, UnitPasses.UnitLaws.AreUnitsIn}
use Rattle.dwarf_entries.proofs.UnitPasses.UnitLaws.{IsUnitIn, seen, stored-index, stored-there}

-- ---- the entries that were read before

-- The bytes up to the end of a unit, by its header.
abbrev pub bytes_in : Sections → UnitHeader → List ℕ
bytes_in s header = take header.end s.debug_info

used-there : (s : Sections) (header : UnitHeader) (dies : List Die) (k : ℕ) (die : Die)
    (read : IsUnitIn s header dies) → slice_get dies k ≡ Some die
    → used_at header.format read.table (bytes_in s header) die.offset
    ≡ Ok (die.tag, stored_attributes true die.attributes)
unfolding entry_at
used-there s header dies k die read there = grind (arith, entries_again, uleb-moves, inside-is)

-- A unit has the header that is stored for it.
pub stored-in : (s : Sections) (u : CompilationUnit) (k : UnitEntries)
    → stored_of k ≡ stored_unit_of u → IsUnitIn s u.header u.dies → IsUnitIn s k.header u.dies
stored-in s u k same is = grind arith

-- The entry at a place can be re-read with the stored header of its unit.
pub reread : (s : Sections) (us : List CompilationUnit) (stored : List UnitEntries)
    (place : UnitPlace) (m : Member) (k : UnitEntries) → AreUnitsIn s us → AreStored stored us
    → slice_get stored place.unit ≡ Some k → IsPlaceOf us place m
    → (read : IsUnitIn s k.header m.unit.dies)
    × (named_entry_at k.header.format read.table (bytes_in s k.header) place.offset
    ≡ Ok (named_entry m.die))
reread s us stored place m k are same found at =
    let read = stored-in s m.unit k
    (stored-index stored us same place.unit k m.unit found at.unit_is)
    (are.each_is place.unit m.unit at.unit_is) in
    let used = used-there s k.header m.unit.dies at.index m.die read at.there in
    (read, rw (← at.offset_is, used, names_at-stored m.die) refl)

abbrev place_in : ScopeSite → ScopePlace
place_in p = record { offset = p.member.die.offset; inside = p.inside }

places-are : (u : CompilationUnit) (dies : List Die)
    → scope_places dies ≡ map place_in (sites_in u dies)
places-are u [] = refl
places-are u (die ∷ rest) = let later = places-are u rest in grind arith

-- A unit has as many stored elements as sites.
pub sites-stored : (k : UnitEntries) (u : CompilationUnit) → stored_of k ≡ stored_unit_of u
    → length k.scopes.items ≡ length (sites_in u u.dies)
sites-stored k u same =
    grind (arith, places-are u u.dies, length-map (sites_in u u.dies) place_in)

-- The lemmas for the number of scopes that are stored for a unit.
pub ruleset stored_scopes = (sites-stored, seen, stored-there)

-- The site at an index of a unit can be re-read from the stored data of the unit.
pub site-read : (s : Sections) (us : List CompilationUnit) (n i : ℕ) (u : CompilationUnit)
    (p : ScopeSite) (k : UnitEntries) (x : ScopePlace) → AreUnitsIn s us
    → stored_of k ≡ stored_unit_of u → slice_get us n ≡ Some u
    → slice_get (sites_in u u.dies) i ≡ Some p → x ≡ get_or k.scopes.items i x
    → (x.inside ≡ p.inside) × (read : IsUnitIn s k.header u.dies)
    × (scope_entry_at k.header.format read.table (bytes_in s k.header) x.offset
    ≡ Ok (scope_entry p.member.die p.kind))
site-read s us n i u p k x are same is found here =
    let at = site-in u u.dies i p found in
    let read = stored-in s u k same (are.each_is n u is) in
    let places = places-are u u.dies in
    let item = get_or-map place_in (sites_in u u.dies) i p x in
    let place : x ≡ place_in p = grind (arith, same, slice_get_within, get_or_from_slice_get) in
    let used = used-there s k.header u.dies _ p.member.die read at.there in
    let values = value-stored p.member.die.attributes in
    let names = names_at-stored p.member.die in
    rw place (refl, read, grind (arith, used, values, names, at.kind_is))
