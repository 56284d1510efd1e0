use Rattle.dwarf_entries.proofs
use proofs.{◌+◌, arith, found-at, in-bounds, object-units, outside, seen-units, stored-index, within-unit}
use proofs.{refl}
use Rattle.dwarf_entries.proofs.units.Units.target_offset.Goals as goal

pub returns : goal.returns
returns c u at =
    let us = c.args.self.now.units in
    let are = seen-units c.self.invariant c.self.view_is c.deref.ensures.value in
    let k = c.in_ok-header.field-0.now in
    let same = stored-index c.deref.result.now us are c.args.unit k u
    (found-at _ _ c.args.unit k refl c.in_ok-header.ensures.lookup.3) at in
    let offset = k.header.start + c.args.reference.number in
    let here = within-unit us c.args.unit offset u c.args.reference
    c.if-reference-eq-DW_FORM_REF_ADDR.false at in
    let units = object-units _ _ c.self.view_is in
    grind (arith, same, here, in-bounds units c.args.unit offset u at, outside units c.args.unit offset u at)
