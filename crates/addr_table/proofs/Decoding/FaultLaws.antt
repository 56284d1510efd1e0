-- Well-formed bytes have no fault.
use Rattle.std.proofs.Common.{◌≡◌, ℕ, List, refl, sym}
use Rattle.std.specs.Prelude.{None, Result, Ok, Err, IsOk}
use Rattle.std.proofs.lemmas.Bool.{true≢false}
use Rattle.dwarf_bytes.specs.declared.fault.LoadFault.{LoadFault}
use Rattle.addr_table.specs.Decoded.{Decoded, decoded}
use Rattle.addr_table.specs.Module.{IsWellFormed, fault_of, fault_by}

pub well-formed-faultless : (bytes : List ℕ) → IsWellFormed bytes → fault_of bytes ≡ None
unfolding IsWellFormed fault_of
well-formed-faultless bytes good = by (decoded bytes) good
  where
    by : (r : Result Decoded LoadFault) → IsOk r → fault_by r ≡ None
    by (Ok d) good = refl
    by (Err fault) good = absurd (true≢false (sym good))
