use Rattle.dwarf_lines.proofs.Rows.RowCounts.{rows-take-bytes}
use Rattle.dwarf_lines.proofs.laws.rows_take_bytes.Goals as goal

pub returns : goal.returns
returns c = rows-take-bytes
