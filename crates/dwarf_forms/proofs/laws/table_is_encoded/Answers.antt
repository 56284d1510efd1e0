use Rattle.dwarf_forms.proofs.EncodedTables.{table-decoded}
use Rattle.dwarf_forms.proofs.laws.table_is_encoded.Goals as goal

pub returns : goal.returns
returns c = table-decoded
