use Rattle.dwarf_bytes.proofs.Numbers.LengthLaws.{initial-encoded, initial-again}
use Rattle.dwarf_bytes.proofs.laws.initial_length_is_encoded.Goals as goal

pub returns : goal.returns
returns c bytes at format len next =
    (initial-encoded bytes at ((format, len), next), initial-again format bytes at len next)
