use Rattle.std.proofs.Common.{◌∙◌, sym}
use Rattle.addr_table.proofs.FrameWalks.FrameTurns.{started-some, started-none}
use Rattle.addr_table.proofs.frames.FrameWalk.of.Goals as goal

pub returns-in-Some : goal.returns-in-Some
returns-in-Some c =
    started-some _ _ _ _ c.args.place.link _ _ _ _ _ _ c.requires c.count.ensures.count
    c.search_start-started.ensures c.row.ensures
    (sym c.in-Some.is ∙ c.top.ensures)

pub returns-in-None : goal.returns-in-None
returns-in-None c =
    started-none _ _ _ _ c.args.place.link _ _ _ _ _ _ c.requires c.count.ensures.count
    c.search_start-started.ensures c.row.ensures
    (sym c.in-None.is ∙ c.top.ensures) c.is_some.ensures
