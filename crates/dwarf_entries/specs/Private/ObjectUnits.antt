-- The units of an object, and what the program stores for them.
use Rattle.std.specs.Prelude.{◌≡◌, List, [], map, Result, Ok, Err}
use Rattle.dwarf_walk.specs.{Rereading.IsReaderOf, Sections.Sections}
use Rattle.dwarf_entries.specs.{declared.units.Units.TheInside.Inside, Units.CompilationUnit}
use Rattle.dwarf_entries.specs.{Units.units_read, Private.EntryOffsets.{AreStored, IsBitmapOf}}
use Rattle.dwarf_entries.specs.{Private.NameCache.IsCacheOf, Private.Passes.bases_of}
use Rattle.dwarf_entries.specs.Private.StringSections.{AreStringSections}
use Rattle.dwarf_bytes.specs.declared.fault.LoadFault.{LoadFault}

-- The sections of an object, and its units.
pub record ObjectUnits : Type 0 where
  pub sections : Sections
  pub units : List CompilationUnit

-- The units that were read, or none after a fault.
abbrev pub units_or_none : Result (List CompilationUnit) LoadFault → List CompilationUnit
units_or_none (Ok units) = units
units_or_none (Err fault) = []

-- The units of an object with these sections.
abbrev pub units_of_object : Sections → ObjectUnits
units_of_object s = record { sections = s; units = units_or_none (units_read s) }

-- What the program stores for the units of an object: their entries, the bitmap of all entries and
-- the bases, the string sections, a reader of entries, and a cache of names.
pub record AreUnitsOf (object : ObjectUnits) (u : Inside) : Type 0 where
  pub stored_are : AreStored u.units.items object.units
  pub bitmap_is : IsBitmapOf u.bitmap object.units
  pub bases_are : u.bases.items ≡ map bases_of object.units
  pub strings_are : AreStringSections object.sections u.strings
  pub reader_is : IsReaderOf object.sections u.reader
  pub cache_is : IsCacheOf object.sections object.units u.cache
