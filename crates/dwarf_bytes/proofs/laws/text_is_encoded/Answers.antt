use Rattle.dwarf_bytes.proofs.Strings.StringLaws.{text-encoded, text-again}
use Rattle.dwarf_bytes.proofs.laws.text_is_encoded.Goals as goal

pub returns : goal.returns
returns c bytes at text next = (text-encoded bytes at text next, text-again bytes at text next)
