use Rattle.dwarf_units.proofs.{arith, length, header_at, header_at-advances, unit_at-moves}
use Rattle.dwarf_units.specs.Units.{headers_of}
use Rattle.dwarf_bytes.proofs.Items.Turns.{so-far-item, so-far-end, so-far-fault}
use Rattle.dwarf_units.proofs.unit_headers.headers.Goals as goal

pub returns-in-Err : goal.returns-in-Err
unfolding headers_of
returns-in-Err c =
    let info = c.args.info.now in
    let loop = c.loop-at in
    let fault = so-far-fault (length info) (header_at info) (header_at-advances info) 0
    loop.all.items loop.at c.in-Err.cause loop.invariant.read in
    grind (arith, fault, c.in-Err.ensures, c.at_item.ensures)

pub loop-at-preserved : goal.loop-at-preserved
loop-at-preserved c =
    let info = c.args.info.now in
    let item = so-far-item (length info) (header_at info) (header_at-advances info) 0 in
    let moves = unit_at-moves info c.loop-at.at in
    record {
      within = grind (arith, moves, c.in-Ok.ensures);
      read = grind (arith, item, c.in-Ok.ensures, c.in_ok-push-in-Ok.ensures);
    }

pub returns : goal.returns
unfolding headers_of
returns c =
    let info = c.args.info.now in
    let loop = c.loop-at in
    let end = so-far-end (length info) (header_at info) (header_at-advances info) 0 loop.all.items
    loop.at loop.at loop.invariant.read in
    grind (arith, end)
