use Rattle.std.proofs.Common.{sym, subst, ◌<◌, length}
use Rattle.module_map.specs.Private.Rising.{AreRising}
use Rattle.module_map.proofs.Removals.{rising-remove}
use Rattle.module_map.proofs.sorted.SortedModules.remove.Goals as goal

pub invariant_of-self : goal.invariant_of-self
invariant_of-self c =
    subst AreRising (sym c.remove-loaded.ensures.items)
    (rising-remove c.self.inside.list.items c.args.at c.self.invariant
    (subst (λ l. c.args.at < length l) (sym c.self.view_is) c.requires))
