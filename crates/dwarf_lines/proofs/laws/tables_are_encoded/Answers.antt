use Rattle.dwarf_lines.proofs.Headers.TableEncodings.{table_encoded, table-again}
use Rattle.dwarf_lines.proofs.laws.tables_are_encoded.Goals as goal

pub returns : goal.returns
returns c s format table bytes at entries next = (
  table_encoded s format table bytes at entries next,
  table-again s format table bytes at entries
      next,
)
