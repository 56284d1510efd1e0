use Rattle.dwarf_bytes.proofs.Strings.StringLaws.{text-missing, text-missing-again}
use Rattle.dwarf_bytes.proofs.laws.text_faults.Goals as goal

pub returns : goal.returns
returns c bytes at fault = (text-missing bytes at fault, text-missing-again bytes at fault)
