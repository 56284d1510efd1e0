use Rattle.std.proofs.Common.{refl}
use Rattle.addr_table.specs.Private.Walks.{parent_code, parent_codes}
use Rattle.addr_table.proofs.FrameWalks.WalkLaws.{IsNextFrame, frame-taken}
use Rattle.addr_table.proofs.FrameWalks.FrameTurns.{returned-frame}
use Rattle.addr_table.proofs.frames.FrameWalk.next.Goals as goal
use Rattle.addr_table.proofs.frames.FrameWalk.next.Goals.{After-outer-self-inside}

returned : (c : After-outer-self-inside)
    → IsNextFrame c.self.inside.link c.self.inside.tables.scopes.now.scopes
    (parent_codes c.self.inside.parents.now) (parent_code c.self.inside.scope) c.in-Some.number
    c.self.inside.top
returned c =
    frame-taken _ _ _ _ _ _ _ c.self.invariant.have refl
    c.in-Some.ensures.within c.in-Some.ensures.chain
    c.in-Some.ensures.ends c.in-Some.ensures.returned

pub invariant_of-self-2 : goal.invariant_of-self-2
invariant_of-self-2 c = rw c.outer-self-inside.ensures
    ((returned (goal.at.invariant_of-self-2 c).After-outer-self-inside).walk)

pub returns : goal.returns
returns c =
    rw (← c.self.view_is)
    (returned-frame c.self.inside.tables.bytes.now c.self.inside.tables.lines.now _ _ _ _ _ _ _
    c.self.inside.site _
    (returned (goal.at.returns c).After-outer-self-inside) c.in-Some.ensures.within
    c.if-self.false c.outer-self-inside.ensures)
