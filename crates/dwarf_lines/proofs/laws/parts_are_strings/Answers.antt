use Rattle.dwarf_lines.proofs.SectionPrograms.SectionEncodings.{part-text}
use Rattle.dwarf_lines.proofs.laws.parts_are_strings.Goals as goal

pub returns : goal.returns
returns c = part-text
