use Rattle.dwarf_bytes.proofs.Strings.FirstNuls.{found-first}
use Rattle.dwarf_bytes.proofs.text.first_nul.Goals as goal

pub returns-clause-place : goal.returns-clause-place
returns-clause-place c = found-first c.args.bytes.now c.find_byte.result c.find_byte.ensures
