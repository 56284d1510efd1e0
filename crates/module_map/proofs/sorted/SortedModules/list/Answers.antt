use Rattle.std.proofs.Common.{subst}
use Rattle.module_map.specs.Private.Rising.{AreRising}
use Rattle.module_map.proofs.RisingModules.{rising-modules}
use Rattle.module_map.proofs.sorted.SortedModules.list.Goals as goal

pub returns-clause-rising : goal.returns-clause-rising
returns-clause-rising c = rising-modules _ (subst AreRising c.self.view_is c.self.invariant)
