-- The names of an entry, as the program stores them.
use Rattle.std.specs.Prelude.{◌≡◌, List, Result, Ok, Err}
use Rattle.dwarf_bytes.specs.{declared.fault.Cause.Cause, Refusals.Fails}
use Rattle.dwarf_entries.specs.Names.{Member, names_of}
use Rattle.dwarf_entries.specs.Units.{CompilationUnit}
use Rattle.dwarf_walk.specs.Sections.{Sections}
use Rattle.plain_scopes.specs.declared.names.Names.{Names}

-- The names of an entry are the outcome, unless memory ran out.
abbrev pub GivesNames : Sections → List CompilationUnit → Member → Result Names Cause → Type 0
GivesNames s units m (Ok n) =
    names_of s units m ≡ Ok (record { name = n.name; linkage_name = n.linkage_name })
GivesNames s units m (Err cause) = Fails cause (names_of s units m)
