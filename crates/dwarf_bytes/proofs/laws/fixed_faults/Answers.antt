use Rattle.dwarf_bytes.proofs.Numbers.ReadFaults.{fixed-fault, fixed-truncated}
use Rattle.dwarf_bytes.proofs.laws.fixed_faults.Goals as goal

pub returns : goal.returns
returns c n bytes at fault = (fixed-fault n bytes at fault, fixed-truncated n bytes at fault)
