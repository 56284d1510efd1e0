use Rattle.dwarf_lines.proofs.Rows.LineLaws.{lines-rise}
use Rattle.dwarf_lines.proofs.laws.program_offsets_rise.Goals as goal

pub returns : goal.returns
returns c = lines-rise
