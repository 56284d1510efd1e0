use Rattle.addr_table.proofs.FrameWalks.EmptyNames.{empty-name}
use Rattle.std.proofs.Common.{◌∙◌, sym}
use Rattle.addr_table.proofs.frames.Frame.name.Goals as goal

pub returns-then-has_empty_name : goal.returns-then-has_empty_name
returns-then-has_empty_name c = rw (← c.self.view_is, c.in_ok-number.was)
    (empty-name c.self.inside.tables.bytes.now _
    (sym c.has_empty_name.ensures ∙ c.if-has_empty_name.true))
