use Rattle.std.proofs.Common.{arith}
use Rattle.dwarf_forms.proofs.TableTurns.{turn-fault, turn-item, turn_end}
use Rattle.dwarf_forms.proofs.table.declarations.Goals as goal

pub loop-table-smaller : goal.loop-table-smaller
loop-table-smaller c =
    let turn = turn-item c.args.budget c.loop-table.invariant c.extend.new.self c.extend.new.cursor
    (rw c.in-Ok-true.field-0-test at c.in-Ok-true.ensures) in
    rw (turn.0.bytes_are, c.loop-table.invariant.bytes_are) (omega (arith, turn.1, turn.2))

pub loop-table-preserved : goal.loop-table-preserved
loop-table-preserved c =
    (turn-item c.args.budget c.loop-table.invariant c.extend.new.self c.extend.new.cursor
    (rw c.in-Ok-true.field-0-test at c.in-Ok-true.ensures)).0

pub returns-in-Ok-false-clause-decodes : goal.returns-in-Ok-false-clause-decodes
returns-in-Ok-false-clause-decodes c =
    (turn_end c.args.budget c.loop-table.invariant c.extend.new.self c.extend.new.cursor
    (rw c.in-Ok-false.field-0-test at c.in-Ok-false.ensures)).0

pub returns-in-Ok-false-clause-few : goal.returns-in-Ok-false-clause-few
returns-in-Ok-false-clause-few c =
    (turn_end c.args.budget c.loop-table.invariant c.extend.new.self c.extend.new.cursor
    (rw c.in-Ok-false.field-0-test at c.in-Ok-false.ensures)).1

pub returns-in-Err-clause-decodes : goal.returns-in-Err-clause-decodes
returns-in-Err-clause-decodes c =
    turn-fault c.args.budget c.loop-table.invariant c.in-Err.cause c.place-at.result
    c.at_item.result c.in-Err.ensures c.place-at.ensures.place c.at_item.ensures
