use Rattle.dwarf_bytes.proofs.Numbers.ReadFaults.{length-fault, length-truncated, length-reserved}
use Rattle.dwarf_bytes.proofs.Numbers.ReadFaults.{only-short, only-length, short-or-length}
use Rattle.dwarf_bytes.proofs.laws.initial_length_faults.Goals as goal

pub returns-clause-short : goal.returns-clause-short
returns-clause-short c bytes at =
    (λ e. only-short (length-fault bytes at _ e), length-truncated bytes at)

pub returns-clause-reserved : goal.returns-clause-reserved
returns-clause-reserved c bytes at =
    (λ e. only-length (length-fault bytes at _ e), length-reserved bytes at)

pub returns-clause-no_other : goal.returns-clause-no_other
returns-clause-no_other c bytes at fault e = short-or-length fault (length-fault bytes at fault e)
