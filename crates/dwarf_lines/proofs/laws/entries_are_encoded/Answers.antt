use Rattle.dwarf_lines.proofs.Headers.EntryEncodings.{entry_encoded, entry_again}
use Rattle.dwarf_lines.proofs.laws.entries_are_encoded.Goals as goal

pub returns : goal.returns
returns c s format table fields bytes at entry next valid = (
  entry_encoded s format table bytes fields valid at entry next,
  entry_again s format table bytes
      fields valid at entry next,
)
