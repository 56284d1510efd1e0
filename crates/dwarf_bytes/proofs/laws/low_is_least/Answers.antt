use Rattle.dwarf_bytes.proofs.Objects.ValidObject.{low_is_least}
use Rattle.dwarf_bytes.proofs.laws.low_is_least.Goals as goal

pub returns : goal.returns
returns c bytes good = low_is_least bytes good
