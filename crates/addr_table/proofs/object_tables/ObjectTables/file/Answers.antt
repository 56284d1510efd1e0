use Rattle.std.proofs.Common.{sym, refl}
use Rattle.addr_table.proofs.Decoding.DecodeLaws.{lines-read}
use Rattle.addr_table.proofs.FrameWalks.FrameTurns.{path-read}
use Rattle.addr_table.proofs.object_tables.ObjectTables.file.Goals as goal

pub returns : goal.returns
returns c =
    let s = lines-read c.args.self.bytes.now _ _ _ _ c.args.self.place_of refl refl refl in
    path-read c.args.self.bytes.now c.args.self.lines.now c.args.program c.args.file _ _ _ s
    c.new.ensures (sym c.in_ok-parts.ensures)
