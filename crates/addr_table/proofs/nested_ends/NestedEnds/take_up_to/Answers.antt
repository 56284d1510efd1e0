use Rattle.std.proofs.Common.{[], ◌≡◌, None, arith, refl}
use Rattle.std.proofs.lemmas.Grind.{common_steps}
use Rattle.addr_table.proofs.Endpoints.NestedEndLaws.{heap-taken, stack-taken}
use Rattle.addr_table.proofs.nested_ends.NestedEnds.take_up_to.Goals as goal

pub returns-in-Some : goal.returns-in-Some
returns-in-Some c =
    let taken = c.in-Some.ensures in
    rw (← c.self.view_is) (taken.0, taken.1, stack-taken _ _ _ _ taken.2)

pub returns-in-None : goal.returns-in-None
returns-in-None c =
    let none : c.self.inside.heap ≡ [] = grind (arith, common_steps) in
    rw (← c.self.view_is) (heap-taken c.args.end _ _ c.self.inside.heap c.self.inside.heap None
    c.in-None.ensures.0 c.in-None.ensures.1 (refl, rw none (λ k d lt. absurd (omega arith))))

pub returns-in-None-2 : goal.returns-in-None-2
returns-in-None-2 c =
    rw (← c.self.view_is) (heap-taken _ _ _ _ _ _ c.in-None.ensures.0 c.in-None.ensures.1
    c.take_up_to.ensures)
