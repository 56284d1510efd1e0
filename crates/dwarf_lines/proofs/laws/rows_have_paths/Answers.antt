use Rattle.dwarf_lines.proofs.Rows.RowPaths.{rows-have-paths}
use Rattle.dwarf_lines.proofs.laws.rows_have_paths.Goals as goal

pub returns : goal.returns
returns c = rows-have-paths
