use Rattle.dwarf_units.proofs.{arith, one-stored}
use Rattle.dwarf_units.proofs.attribute_run.read_one.Goals as goal

pub returns-in-Some : goal.returns-in-Some
returns-in-Some c =
    let stored = one-stored c.args.keep c.args.format c.args.specification.now
    c.args.cursor.now.bytes c.args.cursor.now.place c.args.found.now c.in-Some.name
    (c.in_ok-attribute.attribute, c.read_attribute.new.cursor.place) c.if-not-keep.false in
    grind (arith, stored)
