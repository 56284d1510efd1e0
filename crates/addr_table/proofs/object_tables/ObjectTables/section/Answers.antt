use Rattle.std.proofs.Common.{◌∙◌, sym, ap}
use Rattle.addr_table.specs.Frames.{text_section}
use Rattle.addr_table.proofs.FrameWalks.FrameTurns.{str-section, line_str-section, info-section}
use Rattle.addr_table.proofs.object_tables.ObjectTables.section.Goals as goal

pub returns-in-DebugStr : goal.returns-in-DebugStr
returns-in-DebugStr c =
    c.of.ensures
    ∙ (str-section c.args.self.bytes.now _ c.args.self.place_of
    ∙ sym (ap (text_section c.args.self.bytes.now) c.in-DebugStr.is))

pub returns-in-DebugLineStr : goal.returns-in-DebugLineStr
returns-in-DebugLineStr c =
    c.of-in-DebugLineStr.ensures
    ∙ (line_str-section c.args.self.bytes.now _ c.args.self.place_of
    ∙ sym (ap (text_section c.args.self.bytes.now) c.in-DebugLineStr.is))

pub returns-in_default : goal.returns-in_default
returns-in_default c =
    c.of-in_default.ensures
    ∙ info-section c.args.self.bytes.now _ c.args.section c.args.self.place_of
    c.in_default.not-DebugStr c.in_default.not-DebugLineStr
