use Rattle.std.proofs.Common.{◌≡◌, length, sym, ap, subst, ◌∙◌, arith}
use Rattle.module_map.specs.Private.Rising.{AreRising}
use Rattle.module_map.proofs.Removals.{rising-turned}
use Rattle.module_map.proofs.Names.{turned-set, whole}
use Rattle.module_map.proofs.sorted.SortedModules.relocate.Goals as goal

pub rotate-requires-clause-at : goal.rotate-requires-clause-at
rotate-requires-clause-at c =
    let clear = c.requires.clear c.move_to.new.self in let within = clear.within in let long =
    c.as_mut_slice.ensures.len in
    let same : length c.self.inside.list.items ≡ length c.args.self.now =
    ap length c.self.view_is in
    let ok = c.self.inside.list.ok in
    omega arith

pub returns : goal.returns
returns c = λ d. whole c.rotate.new.list _ _ (c.rotate.auto.list ∙ c.as_mut_slice.ensures.len)
    ∙ c.rotate.ensures d
    ∙ turned-set c.args.self.now c.self.inside.list.items _ _ _ _ _ _ _ c.self.view_is
    c.requires.within c.as_mut_slice.ensures.value c.move_to.ensures
    c.index_mut-loaded.ensures.value

pub invariant_of-self : goal.invariant_of-self
invariant_of-self c = let d = c.move_to.new.self in
    subst AreRising (sym (whole c.rotate.new.list _ _
    (c.rotate.auto.list ∙ c.as_mut_slice.ensures.len) ∙ c.rotate.ensures d
    ∙ turned-set c.args.self.now c.self.inside.list.items _ _ _ _ _ _ _ c.self.view_is
    c.requires.within c.as_mut_slice.ensures.value c.move_to.ensures
    c.index_mut-loaded.ensures.value))
    (rising-turned c.args.self.now c.args.own c.args.at c.args.base d
    (subst AreRising c.self.view_is c.self.invariant) c.requires.within (c.requires.clear d))
