use Rattle.dwarf_lines.proofs.Headers.FormatEncodings.{format-encoded, format-again}
use Rattle.dwarf_lines.proofs.laws.formats_are_encoded.Goals as goal

pub returns : goal.returns
returns c count bytes at fields next = (
  format-encoded count bytes at fields next,
  format-again count bytes at fields next,
)
