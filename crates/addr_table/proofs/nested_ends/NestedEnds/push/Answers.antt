use Rattle.addr_table.proofs.Endpoints.NestedEndLaws.{heap-added, stack-added}
use Rattle.addr_table.proofs.nested_ends.NestedEnds.push.Goals as goal

pub returns-then-is_inside : goal.returns-then-is_inside
returns-then-is_inside c =
    rw (← c.self.view_is, c.in_ok-push.ensures.items)
    (stack-added c.args.end c.self.inside.stack.items c.self.inside.heap)

pub returns : goal.returns
returns c =
    rw (← c.self.view_is)
    (heap-added c.args.end c.self.inside.stack.items _ _ c.in_ok-push-2.ensures)
