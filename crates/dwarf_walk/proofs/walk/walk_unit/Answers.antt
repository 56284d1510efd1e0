use Rattle.std.proofs.Common.{ap, arith, ◌∙◌, ◌≡◌}
use Rattle.dwarf_units.specs.{AbbreviationTables.Table, declared.unit_headers.UnitHeader.UnitHeader}
use Rattle.dwarf_walk.proofs.WalkTurns.{walk-end, walk-fault, walk-item, walk-items}
use Rattle.dwarf_walk.proofs.walk.walk_unit.Goals as goal

-- The format of the copied table.
copied : (table copy : Table) (header : UnitHeader) → copy ≡ table
    → table.format ≡ header.format → copy.format ≡ header.format
copied table copy header same is = ap (λ (t : Table). t.format) same ∙ is

pub loop-place-preserved-then-place-unit : goal.loop-place-preserved-then-place-unit
loop-place-preserved-then-place-unit c =
    (walk-items _ _ _ _ c.in_ok-place.ensures.0 (copied _ _ c.args.header c.copy-table.ensures c.requires)
    c.unit_bytes-unit.ensures c.loop-place.invariant c.in_ok-place.ensures.1).1

pub returns-in-Err-clause-decodes : goal.returns-in-Err-clause-decodes
returns-in-Err-clause-decodes c =
    let same = copied _ _ c.args.header c.copy-table.ensures c.requires in
    let here = walk-items _ _ _ _ c.in_ok-place.ensures.0 same c.unit_bytes-unit.ensures
    c.loop-place.invariant c.in_ok-place.ensures.1 in
    rw c.copy-table.ensures
    at (walk-fault _ _ _ _ same c.unit_bytes-unit.ensures c.if-place-unit.false here.1
    c.in-Err.ensures c.at_item.ensures)

pub loop-place-smaller : goal.loop-place-smaller
loop-place-smaller c =
    let same = copied _ _ c.args.header c.copy-table.ensures c.requires in
    let here = walk-items _ _ _ _ c.in_ok-place.ensures.0 same c.unit_bytes-unit.ensures
    c.loop-place.invariant c.in_ok-place.ensures.1 in
    let next = walk-item _ _ _ _ {after = c.read_node.new.bitmap} same c.unit_bytes-unit.ensures
    c.if-place-unit.false here.1 c.in-Ok.ensures in
    omega (arith, here.0, next.0, next.1)

pub loop-place-preserved : goal.loop-place-preserved
loop-place-preserved c =
    let same = copied _ _ c.args.header c.copy-table.ensures c.requires in
    let here = walk-items _ _ _ _ c.in_ok-place.ensures.0 same c.unit_bytes-unit.ensures
    c.loop-place.invariant c.in_ok-place.ensures.1 in
    (walk-item _ _ _ _ same c.unit_bytes-unit.ensures c.if-place-unit.false here.1
    c.in-Ok.ensures).2

pub returns-clause-decodes : goal.returns-clause-decodes
returns-clause-decodes c = rw c.copy-table.ensures
    at (walk-end _ _ _ _ c.unit_bytes-unit.ensures c.loop-place-test.false c.loop-place.invariant).0

pub returns-clause-bitmap : goal.returns-clause-bitmap
returns-clause-bitmap c = rw c.copy-table.ensures
    at (walk-end _ _ _ _ c.unit_bytes-unit.ensures c.loop-place-test.false c.loop-place.invariant).1
