use Rattle.dwarf_bytes.proofs.Numbers.ReadFaults.{text_at-fault, text_at-missing}
use Rattle.dwarf_bytes.proofs.laws.text_at_faults.Goals as goal

pub returns : goal.returns
returns c section offset fault =
    (text_at-fault section offset fault, text_at-missing section offset fault)
