use Rattle.dwarf_lines.proofs.Rows.RowOrder.{rows-are-in-order}
use Rattle.dwarf_lines.proofs.laws.rows_are_in_order_of_programs.Goals as goal

pub returns : goal.returns
returns c = rows-are-in-order
