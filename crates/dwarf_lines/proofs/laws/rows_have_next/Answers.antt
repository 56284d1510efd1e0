use Rattle.dwarf_lines.proofs.Rows.SequenceChains.{rows-have-next}
use Rattle.dwarf_lines.proofs.laws.rows_have_next.Goals as goal

pub returns : goal.returns
returns c = rows-have-next
