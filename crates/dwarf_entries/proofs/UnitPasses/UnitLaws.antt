-- The units of an object, as they were read from its sections, and what is stored for them.
use Rattle.dwarf_entries.proofs.Common
use Common.{IsCacheOf, NameCache, ◌≡◌, ℕ, zero, suc, ◌<◌, ◌≤◌, List, [], ◌∷◌, length, map, refl}
use Common.{sym, arith, get_or, ◌++◌, Some, Result, Ok, Err, zip, slice_get, slice_get_within}
use Common.{get_or_from_slice_get, slice_get-map, LoadFault, in_section, bind_ok, same-ok}
use Common.{Declaration, UnitHeader, tables_of, Die, RiseWithin, in_section-ok, Sections}
use Common.{CompilationUnit, units_read, AreStored, stored_unit_of, ObjectUnits, length-map}
use Common.{UnitEntries, stored_of, DebugAbbrev, DebugInfo, slice_get_read, declarations_of}
use Common.{declarations_limit, units_of, entries_of, table_is, with_bases, unit_of, all_entries}
use Common.{each_from, IsReaderOf, EntryReader, AreUnitsOf, units_or_none, units_of_object, Inside}
use Common.{all_bases, entries-rise}
use Rattle.dwarf_entries.proofs.UnitPasses.HeaderLaws.{AreHeadersIn, HasBounds, headers-in}
use Rattle.dwarf_entries.proofs.UnitPasses.PassLaws.{each-at, from-map}

-- ---- the headers and the entries of units, which their bases do not change

pub with_bases-parts : (s : Sections) (u v : CompilationUnit) → with_bases s u ≡ Ok v
    → (v.header ≡ u.header) × (v.dies ≡ u.dies)
with_bases-parts s u v h = grind arith

-- The headers and the entries of units stay the same.
pub bases-stay : {Z : Type 0} (f : UnitHeader → List Die → Z) (s : Sections)
    (before us vs : List CompilationUnit) → each_from (λ _ u. with_bases s u) before us ≡ Ok vs
    → map (λ v. f v.header v.dies) vs ≡ map (λ u. f u.header u.dies) us
unfolding each_from
bases-stay f s before [] vs h = rw (← same-ok [] vs h) refl
bases-stay f s before (u ∷ us) vs h =
    let v = bind_ok (with_bases s u) _ vs h in
    let rest = bases-stay f s (before ++ v.0 ∷ []) us in
    grind (arith, rest, v.2, with_bases-parts s u v.0 v.1)

-- ---- the units that were read

-- The header of a unit is within the section, and its entries are read with its table.
pub record IsUnitIn (s : Sections) (header : UnitHeader) (dies : List Die) : Type 0 where
  pub bounds : HasBounds (length s.debug_info) header
  pub table : List Declaration
  pub table_is : declarations_of declarations_limit s.debug_abbrev header.abbreviations ≡ Ok table
  pub dies_are : entries_of s.debug_info header table ≡ Ok dies

pub dies-rise : {s : Sections} {header : UnitHeader} {dies : List Die} → IsUnitIn s header dies
    → RiseWithin header.start header.end dies
dies-rise {s} {header} {dies} is = grind (arith, entries-rise)

pub record AreUnitsIn (s : Sections) (us : List CompilationUnit) : Type 0 where
  pub each_is : (i : ℕ) (u : CompilationUnit) → slice_get us i ≡ Some u → IsUnitIn s u.header u.dies
  pub apart :
      (i j : ℕ) (u v : CompilationUnit) → slice_get us i ≡ Some u → slice_get us j ≡ Some v → i < j
      → u.header.end ≤ v.header.start

-- The units after the first.
pub units-after : {s : Sections} (u : CompilationUnit) (us : List CompilationUnit)
    → AreUnitsIn s (u ∷ us) → AreUnitsIn s us
units-after u us are = record {
  each_is = λ i v found. are.each_is (suc i) v found;
  apart = λ i j v w first second lt. are.apart (suc i) (suc j) v w first second (omega (arith, lt));
}

zip-at : {X Y : Type 0} (xs : List X) (ys : List Y) (i : ℕ) (p : X × Y)
    → slice_get (zip xs ys) i ≡ Some p → (slice_get xs i ≡ Some p.0) × (slice_get ys i ≡ Some p.1)
zip-at [] ys i p h = cc
zip-at (x ∷ xs) [] i p h = cc
zip-at (x ∷ xs) (y ∷ ys) zero p h = grind arith
zip-at (x ∷ xs) (y ∷ ys) (suc i) p h = zip-at xs ys i p h

-- The units that the passes over headers, tables, entries and roots return.
units-are-in : (s : Sections) (headers : List UnitHeader) (tables : List (List Declaration))
    (us vs : List CompilationUnit) → AreHeadersIn (length s.debug_info) headers
    → tables_of s.debug_abbrev headers ≡ Ok tables
    → all_entries s.debug_info headers tables ≡ Ok us → all_bases s us ≡ Ok vs → AreUnitsIn s vs
units-are-in s headers tables us vs headers_are tables_are us_are vs_are = record {
  each_is = λ i v found. (unit-in i v found).1;
  apart = λ i j u v first second lt.
      let here = (unit-in i u first).0 in
      let there = (unit-in j v second).0 in
      grind (arith, headers_are.apart i j u.header lt, slice_get_within, get_or_from_slice_get);
}
  where
    unit-in : (i : ℕ) (v : CompilationUnit) → slice_get vs i ≡ Some v
        → (slice_get headers i ≡ Some v.header) × IsUnitIn s v.header v.dies
    unit-in i v found =
        let of = each-at (λ _ u. with_bases s u) [] us vs vs_are i v found in
        let from = each-at (λ _ p. unit_of s.debug_info p.0 p.1) [] (zip headers tables) us us_are i
        of.0 of.1 in
        let header : UnitHeader = from.0.0 in
        let at = zip-at headers tables i from.0 from.1 in
        let within = slice_get_within headers i header at.0 in
        let bounds = headers_are.bounded i header within in
        let here = get_or_from_slice_get headers i header header at.0 in
        let table = get_or_from_slice_get tables i from.0.1 [] at.1 in
        let read = table_is s.debug_abbrev headers tables i header tables_are within in
        grind (arith, with_bases-parts s of.0 v of.2, from.2)

pub units-in : (s : Sections) (us : List CompilationUnit) → units_read s ≡ Ok us → AreUnitsIn s us
unfolding units_read
units-in s us h =
    let a = bind_ok (in_section DebugInfo (units_of s.debug_info)) _ us h in
    let b = bind_ok (in_section DebugAbbrev (tables_of s.debug_abbrev a.0)) _ us a.2 in
    let c = bind_ok (in_section DebugInfo (all_entries s.debug_info a.0 b.0)) _ us b.2 in
    units-are-in s a.0 b.0 c.0 us (headers-in s.debug_info a.0 (in_section-ok DebugInfo _ a.0 a.1))
    (in_section-ok DebugAbbrev _ b.0 b.1) (in_section-ok DebugInfo _ c.0 c.1)
    (in_section-ok DebugInfo _ us c.2)

pub object-units : (s : Sections) (object : ObjectUnits) → units_of_object s ≡ object
    → AreUnitsIn object.sections object.units
object-units s object same = rw (← same) (by_read (units_read s) refl)
  where
    by_read : (r : Result (List CompilationUnit) LoadFault) → units_read s ≡ r
        → AreUnitsIn s (units_or_none r)
    by_read (Ok us) is = units-in s us is
    by_read (Err fault) is = grind arith

-- The unit at an index, which the data is stored for.
pub record StoredFor (us : List CompilationUnit) (n : ℕ) (k : UnitEntries) : Type 0 where
  pub unit : CompilationUnit
  pub is : slice_get us n ≡ Some unit
  pub stored : stored_of k ≡ stored_unit_of unit

module _ (stored : List UnitEntries) (us : List CompilationUnit) (same : AreStored stored us) where
  pub stored-length : length stored ≡ length us
  stored-length = rw (← length-map stored stored_of, same) (length-map us stored_unit_of)

  pub stored-at : (n : ℕ) (k : UnitEntries) → slice_get stored n ≡ Some k → StoredFor us n k
  stored-at n k found =
      let x = from-map stored_unit_of us n (stored_of k)
      (rw (← same, slice_get-map stored_of stored n, found) refl) in
      record { unit = x.0; is = x.1; stored = sym x.2 }

  -- The same for an element as a loop reads it.
  pub stored-item : (n : ℕ) (k : UnitEntries) → n < length stored → k ≡ get_or stored n k
      → StoredFor us n k
  stored-item n k within is = stored-at n k (slice_get_read stored _ n k refl within is)

  -- The data that is stored for a unit.
  pub stored-for : (n : ℕ) (u : CompilationUnit) → slice_get us n ≡ Some u
      → (k : UnitEntries) × (slice_get stored n ≡ Some k) × (stored_of k ≡ stored_unit_of u)
  stored-for n u found = from-map stored_of stored n (stored_unit_of u)
      (rw (same, slice_get-map stored_unit_of us n, found) refl)

  pub stored-index : (n : ℕ) (k : UnitEntries) (u : CompilationUnit) → slice_get stored n ≡ Some k
      → slice_get us n ≡ Some u → stored_of k ≡ stored_unit_of u
  stored-index n k u found is = let at = stored-at n k found in grind (arith, at.is, at.stored)

  -- The element at an index of the program is stored for the unit at that index.
  pub stored-there : (n : ℕ) (k : UnitEntries) (u : CompilationUnit) → slice_get us n ≡ Some u
      → k ≡ get_or stored n k → stored_of k ≡ stored_unit_of u
  stored-there n k u found is = grind (arith, stored-for, get_or_from_slice_get)

-- ---- what the program stores for the units of an object

-- The same for the object that contracts name.
pub seen : {v w : ObjectUnits} {u : Inside} → AreUnitsOf v u → v ≡ w → AreUnitsOf w u
seen are same = rw (← same) are

-- The units in a slice of the stored units.
pub seen-units : {v w : ObjectUnits} {u : Inside} {slice : List UnitEntries} → AreUnitsOf v u
    → v ≡ w → slice ≡ u.units.items → AreStored slice w.units
seen-units are same slice_is = rw (slice_is, ← same) are.stored_are

-- The same with another reader and another cache.
pub with-parts : {v w : ObjectUnits} {u : Inside} {reader : EntryReader} {cache : NameCache}
    → AreUnitsOf v u → v ≡ w → IsReaderOf w.sections reader → IsCacheOf w.sections w.units cache
    → AreUnitsOf v (record u { reader = reader; cache = cache })
with-parts are same reader_is cache_is = grind (arith, seen)

-- The same with another reader of the same sections.
pub with-reader : {v : ObjectUnits} {u : Inside} {reader : EntryReader} → AreUnitsOf v u
    → ((s : Sections) → IsReaderOf s u.reader → IsReaderOf s reader)
    → AreUnitsOf v (record u { reader = reader })
with-reader {v} are same = with-parts are refl (same v.sections are.reader_is) are.cache_is
