use Rattle.std.proofs.Common.{refl, subst, sym, ◌∙◌}
use Rattle.std.proofs.lemmas.Bool.{leb-true, leb-false}
use Rattle.module_map.specs.Private.Rising.{AreRising}
use Rattle.module_map.proofs.Searches.{narrowed-up, narrowed-down, narrowed-count}
use Rattle.module_map.proofs.sorted.SortedModules.count_started.Goals as goal

pub loop-low-preserved-then-reached : goal.loop-low-preserved-then-reached
loop-low-preserved-then-reached c =
    let begins = leb-true c.start.result c.args.address
    (sym c.reached.ensures.answer ∙ c.if-reached.true) in
    narrowed-up _ _ _ _ _ _ _ _ c.loop-low.invariant c.loop-low-test.true refl
    (λ d. rw (← c.start.ensures d) begins) c.reached.ensures.counted

pub loop-low-preserved : goal.loop-low-preserved
loop-low-preserved c =
    let begins = leb-false c.start.result c.args.address
    (sym c.reached.ensures.answer ∙ c.if-reached.false) in
    narrowed-down _ _ _ _ _ _ _ _ (subst AreRising c.self.view_is c.self.invariant)
    c.loop-low.invariant c.loop-low-test.true refl (λ d. rw (← c.start.ensures d) begins)
    c.reached.ensures.counted

pub returns-clause-counted : goal.returns-clause-counted
returns-clause-counted c = narrowed-count _ _ _ _ _ _ c.loop-low.invariant
