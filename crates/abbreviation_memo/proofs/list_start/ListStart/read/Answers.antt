use Rattle.std.proofs.Common.{arith}
use Rattle.abbreviation_memo.proofs.ListLaws.{list-within, start-later, start-valid}
use Rattle.abbreviation_memo.proofs.list_start.ListStart.read.Goals as goal

pub returns-in_err-seek-clause-valid : goal.returns-in_err-seek-clause-valid
returns-in_err-seek-clause-valid c is =
    let within = list-within c.args.section.now c.args.place is in
    grind (arith, c.in_err-seek.ensures.within.1, c.new-cursor.ensures)

pub returns-in_err-attribute-clause-valid : goal.returns-in_err-attribute-clause-valid
returns-in_err-attribute-clause-valid c is =
    start-valid c.args.section.now c.args.place c.in_err-attribute.field-0.0 is
    (rw (c.in_ok-seek.ensures.ok, c.new-cursor.ensures) at c.in_err-attribute.ensures)

pub returns-clause-later : goal.returns-clause-later
returns-clause-later c =
    rw c.place-rest.ensures.place (start-later c.args.section.now c.args.place c.seek.new.self
    c.first_attribute.new.cursor c.in_ok-attribute.attribute
    (rw c.new-cursor.ensures at c.in_ok-seek.ensures.ok) c.in_ok-attribute.ensures)
