use Rattle.dwarf_bytes.proofs.Objects.ValidObject.{high_is_greatest}
use Rattle.dwarf_bytes.proofs.laws.high_is_greatest.Goals as goal

pub returns : goal.returns
returns c bytes good = high_is_greatest bytes good
