use Rattle.std.proofs.Common.{List, length, ◌-◌, map}
use Rattle.dwarf_lines.specs.Programs.{Program}
use Rattle.dwarf_lines.specs.Private.Readers.{sections_of}
use Rattle.dwarf_lines.specs.Private.Stored.{tables_in}
use Rattle.dwarf_lines.proofs.SectionPrograms.ProgramTurns.{IsReading}
use Rattle.dwarf_lines.proofs.lines.read_programs.Given as goal

abbrev pub invariant-loop-place : goal.invariant-loop-place
invariant-loop-place l = (before : List Program)
    × IsReading (sections_of l.sections) before l.place l.rows.items
    (map tables_in l.programs.items)

abbrev pub decreases-loop-place : goal.decreases-loop-place
decreases-loop-place l = length l.sections.line.now - l.place
