use Rattle.dwarf_lines.proofs.Headers.ParameterEncodings.{encoding-encoded, encoding_again}
use Rattle.dwarf_lines.proofs.laws.parameters_are_encoded.Goals as goal

pub returns : goal.returns
returns c bytes at e next = (encoding-encoded bytes at e next, encoding_again bytes at e next)
