use Rattle.dwarf_bytes.proofs.Numbers.LebEncodings.{sleb-encoded, sleb-again}
use Rattle.dwarf_bytes.proofs.laws.sleb_is_encoded.Goals as goal

pub returns : goal.returns
returns c bytes at value next = (sleb-encoded bytes at value next, sleb-again bytes at value next)
