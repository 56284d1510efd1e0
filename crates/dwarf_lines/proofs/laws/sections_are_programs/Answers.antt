use Rattle.dwarf_lines.proofs.SectionPrograms.SectionEncodings.{section-encoded, section-read}
use Rattle.dwarf_lines.proofs.laws.sections_are_programs.Goals as goal

pub returns : goal.returns
returns c s programs after = (section-encoded s programs after, section-read s programs after)
