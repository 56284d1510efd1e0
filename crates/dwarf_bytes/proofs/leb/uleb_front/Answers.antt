use Rattle.std.proofs.Common.{arith}
use Rattle.dwarf_bytes.proofs.Numbers.SlebPrefixes.{uleb-byte}
use Rattle.dwarf_bytes.proofs.leb.uleb_front.Goals as goal

pub returns-in-len1-up-clause-value : goal.returns-in-len1-up-clause-value
returns-in-len1-up-clause-value c = rw c.from.ensures
    (uleb-byte _ c.in-len1-up.len_at_least (omega arith))
