use Rattle.dwarf_lines.proofs.Instructions.ReadingLaws.{reading_is_encoded, spelled_is_read}
use Rattle.dwarf_lines.proofs.laws.instruction_lists_are_encoded.Goals as goal

pub returns : goal.returns
returns c e bytes at is known le = (
  reading_is_encoded e bytes at is le,
  spelled_is_read e bytes at is known le,
)
