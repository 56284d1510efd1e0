-- The units of an object, each with its entries and its bases.
use Rattle.std.specs.Prelude.{ℕ, List, [], ◌∷◌, Result, Ok, zip}
use Rattle.dwarf_bytes.specs.{declared.fault.LoadFault.LoadFault, declared.format.Format.Format}
use Rattle.dwarf_bytes.specs.{Bind.◌>>=◌, Items.{At, each, with_offset}, Refusals.in_section}
use Rattle.dwarf_forms.specs.Declarations.{Declaration}
use Rattle.dwarf_units.specs.{declared.unit_headers.UnitHeader.UnitHeader, Units.units_of}
use Rattle.dwarf_units.specs.{Units.tables_of, Entries.{Die, entries_of}}
use Rattle.dwarf_walk.specs.Sections.{Sections}
use Rattle.dwarf_ranges.specs.{declared.bases.Bases.Bases, Bases.{no_bases, bases_at}}
use Rattle.dwarf_bytes.specs.declared.fault.Section.TheVariants as names

-- A unit with its entries and with the bases that its root defines. The root is the first entry,
-- if there is one.
pub record CompilationUnit : Type 0 where
  pub header : UnitHeader
  pub dies : List Die
  pub bases : Bases

-- A unit with its entries, before its root is read.
abbrev pub unit_of : List ℕ → UnitHeader → List Declaration → Result CompilationUnit At
unit_of info header table =
    entries_of info header table
    >>= λ dies. Ok (record { header = header; dies = dies; bases = no_bases })

-- The bases that the first of these entries defines.
abbrev pub bases_of_first : Sections → Format → List Die → Result Bases At
bases_of_first sections format [] = Ok no_bases
bases_of_first sections format (root ∷ dies) =
    with_offset root.offset (bases_at sections format root)

-- The same unit, with the bases that its root defines.
abbrev pub with_bases : Sections → CompilationUnit → Result CompilationUnit At
with_bases sections unit =
    bases_of_first sections unit.header.format unit.dies
    >>= λ bases. Ok (record { header = unit.header; dies = unit.dies; bases = bases })

-- The units with their entries.
abbrev pub all_entries : List ℕ → List UnitHeader → List (List Declaration)
    → Result (List CompilationUnit) At
all_entries info headers tables = each (λ _ p. unit_of info p.0 p.1) (zip headers tables)

-- The units with the bases that their roots define.
abbrev pub all_bases : Sections → List CompilationUnit → Result (List CompilationUnit) At
all_bases s us = each (λ _ unit. with_bases s unit) us

-- The units of an object. The passes over all units read headers, tables, entries and roots.
unfoldable pub units_read : Sections → Result (List CompilationUnit) LoadFault
units_read s = do
  headers ← in_section names.DebugInfo (units_of s.debug_info)
  tables ← in_section names.DebugAbbrev (tables_of s.debug_abbrev headers)
  units ← in_section names.DebugInfo (all_entries s.debug_info headers tables)
  in_section names.DebugInfo (all_bases s units)
