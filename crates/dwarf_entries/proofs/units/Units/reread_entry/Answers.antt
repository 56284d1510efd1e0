use Rattle.dwarf_entries.proofs.{refl, seen, seen-units, with-reader}
use Rattle.dwarf_entries.proofs.{found-at, exit, reread, object-units, arith}
use Rattle.dwarf_entries.proofs.units.Units.reread_entry.Goals as goal

pub invariant_of-self : goal.invariant_of-self
invariant_of-self c = with-reader c.self.invariant c.in_err-entry.ensures.reader

pub returns-in_err-entry-clause-member : goal.returns-in_err-entry-clause-member
returns-in_err-entry-clause-member c m at =
    let r = reread _ _ _ c.args.place m c.in-Some.stored.now (object-units _ _ c.self.view_is)
    (seen-units c.self.invariant c.self.view_is c.deref.ensures.value)
    (found-at _ _ c.args.place.unit _ refl c.in-Some.ensures.lookup.3) at in
    let again = c.in_err-entry.ensures.names_at _ r.0.table
    (seen c.self.invariant c.self.view_is).reader_is r.0.table_is in
    grind (arith, exit, r.1, again)

pub invariant_of-self-2 : goal.invariant_of-self-2
invariant_of-self-2 c = with-reader c.self.invariant c.in_ok-entry.ensures.reader

pub returns-clause-member : goal.returns-clause-member
returns-clause-member c m at =
    let r = reread _ _ _ c.args.place m c.in-Some.stored.now (object-units _ _ c.self.view_is)
    (seen-units c.self.invariant c.self.view_is c.deref.ensures.value)
    (found-at _ _ c.args.place.unit _ refl c.in-Some.ensures.lookup.3) at in
    let again = c.in_ok-entry.ensures.names_at _ r.0.table
    (seen c.self.invariant c.self.view_is).reader_is r.0.table_is in
    grind (arith, at.unit_is, r.1, again)
