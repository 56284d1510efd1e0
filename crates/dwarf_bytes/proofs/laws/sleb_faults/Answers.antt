use Rattle.dwarf_bytes.proofs.Numbers.LebFaults.{sleb-fault, sleb-truncated, sleb-leb, only-short}
use Rattle.dwarf_bytes.proofs.Numbers.LebFaults.{only-leb, either}
use Rattle.dwarf_bytes.proofs.laws.sleb_faults.Goals as goal

pub returns-clause-short : goal.returns-clause-short
returns-clause-short c bytes at =
    (λ e. only-short (sleb-fault bytes at _ e), sleb-truncated bytes at)

pub returns-clause-leb : goal.returns-clause-leb
returns-clause-leb c bytes at = (λ e. only-leb (sleb-fault bytes at _ e), sleb-leb bytes at)

pub returns-clause-no_other : goal.returns-clause-no_other
returns-clause-no_other c bytes at fault e = either fault (sleb-fault bytes at fault e)
