use Rattle.addr_table.proofs.Sweeping.BoundLaws.{segments-bounded}
use Rattle.addr_table.proofs.laws.segments_are_few.Goals as goal

pub returns : goal.returns
returns c = segments-bounded
