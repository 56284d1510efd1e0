use Rattle.std.proofs.Common.{subst, ◌++◌}
use Rattle.addr_table.specs.Private.OpenEnds.{IsLowest}
use Rattle.addr_table.proofs.Endpoints.NestedEndLaws.{lowest-alone, lowest-both}
use Rattle.addr_table.proofs.nested_ends.NestedEnds.lowest.Goals as goal

pub returns-in-Some-Some : goal.returns-in-Some-Some
returns-in-Some-Some c =
    let nested = c.in-Some-Some.ensures in
    rw (← c.self.view_is)
    (subst (λ stack. IsLowest (stack ++ c.self.inside.heap) c.min.result) c.deref.ensures.value
    (lowest-both _ _ _ _ _ c.min.ensures nested.0 nested.1 nested.2 c.in-Some-Some.ensures'))

pub returns-in-Some-None : goal.returns-in-Some-None
returns-in-Some-None c =
    let nested = c.in-Some-None.ensures in
    rw (← c.self.view_is)
    (subst (λ stack. IsLowest (stack ++ c.self.inside.heap) c.in-Some-None.nested)
    c.deref.ensures.value
    (lowest-alone _ _ _ c.in-Some-None.ensures' nested.0 nested.1 nested.2))
