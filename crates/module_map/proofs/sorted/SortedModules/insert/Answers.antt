use Rattle.std.proofs.Common.{sym, ◌∙◌, ap, subst}
use Rattle.std.specs.Prelude.{insert}
use Rattle.module_map.specs.Private.Rising.{AreRising}
use Rattle.module_map.proofs.Edits.{rising_insert}
use Rattle.module_map.proofs.Names.{names-differ}
use Rattle.module_map.proofs.sorted.SortedModules.insert.Goals as goal

pub invariant_of-self-2 : goal.invariant_of-self-2
invariant_of-self-2 c =
    let rising = rising_insert c.args.self.now c.args.at c.args.loaded
    (subst AreRising c.self.view_is c.self.invariant) c.requires.clear
    c.extent-extent.ensures.order (names-differ _ _ c.requires.new) in
    subst AreRising (ap (λ l. insert l c.args.at c.args.loaded) (sym c.self.view_is)
    ∙ sym c.in_ok-insert.ensures.items) rising
