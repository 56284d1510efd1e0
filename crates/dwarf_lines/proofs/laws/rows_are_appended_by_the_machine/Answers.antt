use Rattle.dwarf_lines.proofs.Machine.MachineLaws.{rows-by-machine}
use Rattle.dwarf_lines.proofs.laws.rows_are_appended_by_the_machine.Goals as goal

pub returns : goal.returns
returns c = rows-by-machine
