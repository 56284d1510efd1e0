use Rattle.dwarf_bytes.proofs.Numbers.AtOffsets.{fixed-encoded, fixed-again}
use Rattle.dwarf_bytes.proofs.laws.fixed_is_encoded.Goals as goal

pub returns : goal.returns
returns c n bytes at value next within =
    (fixed-encoded n bytes at value next, fixed-again n bytes at value next within)
