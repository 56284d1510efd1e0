use Rattle.dwarf_bytes.proofs.Strings.NulIndex.{BuiltNuls}
use Rattle.dwarf_bytes.proofs.text_index.first_nuls.Given as goal

abbrev pub invariant-loop-block : goal.invariant-loop-block
invariant-loop-block l = BuiltNuls l.section l.nuls.items l.block l.later

abbrev pub decreases-loop-block : goal.decreases-loop-block
decreases-loop-block l = l.block
