use Rattle.std.proofs.Common.{subst}
use Rattle.module_map.specs.Private.Rising.{AreRising}
use Rattle.module_map.proofs.Names.{only-named}
use Rattle.module_map.proofs.sorted.SortedModules.position.Goals as goal

pub returns-clause-only : goal.returns-clause-only
returns-clause-only c =
    only-named c.args.name.now c.args.self.now (subst AreRising c.self.view_is c.self.invariant)
    c.first_of.result c.first_of.ensures
