use Rattle.dwarf_bytes.proofs.Numbers.LebEncodings.{uleb-encoded, uleb-again}
use Rattle.dwarf_bytes.proofs.laws.uleb_is_encoded.Goals as goal

pub returns : goal.returns
returns c bytes at value next = (uleb-encoded bytes at value next, uleb-again bytes at value next)
