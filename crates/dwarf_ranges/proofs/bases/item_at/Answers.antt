use Rattle.std.proofs.Common.{refl}
use Rattle.dwarf_ranges.proofs.BaseLaws.{item_at-outside}
use Rattle.dwarf_ranges.proofs.bases.item_at.Goals as goal

pub returns-then-place-section : goal.returns-then-place-section
returns-then-place-section c =
    item_at-outside c.args.kind c.args.section.now c.args.table c.in_ok-table.table c.args.index _
    c.in_ok-table.ensures.ok_part c.if-index-table.false
    (rw (c.from.ensures, c.from-2.ensures, c.from-3.ensures, c.item_len.ensures) refl)
    c.if-place-section.true
