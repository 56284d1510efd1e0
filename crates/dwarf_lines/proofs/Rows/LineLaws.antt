-- Properties of the line tables of a section.
use Rattle.std.proofs.Common.{◌≡◌, map, Ok, sym, subst}
use Rattle.std.specs.List.Sorted.{IsStrictlyIncreasing}
use Rattle.dwarf_lines.specs.Sections.{LineSections}
use Rattle.dwarf_lines.specs.Lines.{Lines, lines_in}
use Rattle.dwarf_lines.proofs.SectionPrograms.Offsets.{programs-rise, offsets-of}
use Rattle.dwarf_lines.proofs.Rows.SequenceChains.{lines_in-ok}

pub lines-rise : (s : LineSections) (lines : Lines) → lines_in s ≡ Ok lines
    → IsStrictlyIncreasing (map (λ program. program.offset) lines.programs)
lines-rise s lines h =
    let read = lines_in-ok s lines h in
    rw read.3 (subst IsStrictlyIncreasing (sym (offsets-of read.0))
    (programs-rise s read.0 read.1 read.2))
