use Rattle.dwarf_lines.proofs.Instructions.EncodingLaws.{instruction_encoded}
use Rattle.dwarf_lines.proofs.Instructions.InstructionReads.{instruction_again}
use Rattle.dwarf_lines.proofs.laws.instructions_are_encoded.Goals as goal

pub returns : goal.returns
returns c e bytes at i next some = (
  instruction_encoded e bytes at i next,
  instruction_again e bytes at i next some,
)
