use Rattle.dwarf_lines.proofs.SectionPrograms.WholePrograms.{program-encoded, program-again}
use Rattle.dwarf_lines.proofs.laws.programs_are_encoded.Goals as goal

pub returns : goal.returns
returns c s number place program = (
  program-encoded s number place program,
  program-again s number place program,
)
