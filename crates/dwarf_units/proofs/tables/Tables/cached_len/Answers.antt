use Rattle.dwarf_units.proofs.{arith, parsed-too-long}
use Rattle.dwarf_units.proofs.tables.Tables.cached_len.Goals as goal

pub returns-then-len-left-clause-none : goal.returns-then-len-left-clause-none
returns-then-len-left-clause-none c = λ read is_read i table at is.
    let some = c.in_ok-number.ensures.some in
    parsed-too-long c.self.inside.store.section some.table c.args.unit.now.abbreviations c.args.left
    read some.parsed some.at.0 (rw (← c.self.view_is) at is_read) c.requires
    (grind (arith, c.len-len.ensures, c.if-len-left.true, some.found, c.table.ensures.found))
