use Rattle.dwarf_lines.proofs.Headers.HeadersEncoded.{header_encoded, header_again}
use Rattle.dwarf_lines.proofs.laws.headers_are_encoded.Goals as goal

pub returns : goal.returns
returns c s place header = (header_encoded s place header, header_again s place header)
