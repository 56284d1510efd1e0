use Rattle.dwarf_bytes.proofs.Numbers.LebFaults.{uleb-fault, uleb-truncated, uleb-leb, only-short}
use Rattle.dwarf_bytes.proofs.Numbers.LebFaults.{only-leb, either}
use Rattle.dwarf_bytes.proofs.laws.uleb_faults.Goals as goal

pub returns-clause-short : goal.returns-clause-short
returns-clause-short c bytes at =
    (λ e. only-short (uleb-fault bytes at _ e), uleb-truncated bytes at)

pub returns-clause-leb : goal.returns-clause-leb
returns-clause-leb c bytes at = (λ e. only-leb (uleb-fault bytes at _ e), uleb-leb bytes at)

pub returns-clause-no_other : goal.returns-clause-no_other
returns-clause-no_other c bytes at fault e = either fault (uleb-fault bytes at fault e)
