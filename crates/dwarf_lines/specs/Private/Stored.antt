-- The stored tables of the programs, and the contracts of the steps that read them.
use Rattle.std.specs.Prelude.{◌≡◌, ℕ, List, [], ◌∷◌, ◌++◌, map, Result, Ok, Err}
use Rattle.dwarf_bytes.specs.declared.fault.Cause.{Cause}
use Rattle.dwarf_bytes.specs.Refusals.{Fails}
use Rattle.dwarf_lines.specs.declared.row.Row.{Row}
use Rattle.dwarf_lines.specs.declared.programs.ProgramFiles.{ProgramFiles}
use Rattle.dwarf_lines.specs.declared.programs.LineProgramHeader.{LineProgramHeader}
use Rattle.dwarf_lines.specs.Instructions.{encoding}
use Rattle.dwarf_lines.specs.Headers.{LineHeader}
use Rattle.dwarf_lines.specs.Programs.{Program}
use Rattle.dwarf_lines.specs.Lines.{FileTables, tables_of}

abbrev pub tables_in : ProgramFiles → FileTables
tables_in program = record {
  offset = program.offset;
  directories = program.directories.items;
  files = program.files.items;
}

abbrev pub header_in : LineProgramHeader → LineHeader
header_in h = record {
  encoding = encoding h.opcodes;
  directories = h.directories.items;
  files = h.files.items;
  first = h.first;
  past = h.past;
}

-- The rows and the tables of the outcome's program were appended, or the fault is that of the
-- outcome, unless memory ran out.
abbrev pub AddsProgram : Result ℕ Cause → Result Program Cause → List Row → List Row
    → List ProgramFiles
    → List ProgramFiles → Type 0
AddsProgram (Ok past) outcome old_rows new_rows old new =
    (program : Program) × (outcome ≡ Ok program) × (past ≡ program.past)
    × (new_rows ≡ old_rows ++ program.rows)
    × (map tables_in new ≡ map tables_in old ++ tables_of program ∷ [])
AddsProgram (Err cause) outcome old_rows new_rows old new = Fails cause outcome
