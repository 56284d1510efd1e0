use Rattle.std.specs.Prelude.{FitsSigned}
use Rattle.std.specs.Int.{w64}
use Rattle.std.proofs.Common.{arith, rules}
use Rattle.std.proofs.lemmas.Int.{to_z-of_z}
use Rattle.dwarf_bytes.proofs.Numbers.SlebPrefixes.{sleb-byte}
use Rattle.dwarf_bytes.proofs.leb.sleb_front.Goals as goal

pub returns-in-len1-up-clause-value : goal.returns-in-len1-up-clause-value
returns-in-len1-up-clause-value c =
    let fits : FitsSigned w64 c.signed_group.result = search rules in
    rw (to_z-of_z w64 c.signed_group.result fits) (sleb-byte _ _ c.in-len1-up.len_at_least
    (omega arith) c.signed_group.ensures fits)
