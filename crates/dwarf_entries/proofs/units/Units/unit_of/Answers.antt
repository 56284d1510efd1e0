use Rattle.dwarf_entries.proofs
use proofs.{anywhere, arith, found-at, in-bounds, object-units, refl, seen-units, stored-at}
use Rattle.dwarf_entries.proofs.units.Units.unit_of.Goals as goal

pub returns-then-is_some : goal.returns-then-is_some
returns-then-is_some c =
    let are = seen-units c.self.invariant c.self.view_is c.deref.ensures.value in
    let k = c.in-Some.stored.now in
    let x = stored-at c.deref.result.now c.args.self.now.units are c.args.guess k
    (found-at _ _ c.args.guess k refl c.in-Some.ensures.lookup.3) in
    let own = in-bounds (object-units _ _ c.self.view_is) c.args.guess c.args.offset x.unit x.is in
    grind (arith, own, x.stored)

pub returns : goal.returns
returns c =
    let are = seen-units c.self.invariant c.self.view_is c.deref-2.ensures.value in
    anywhere (object-units _ _ c.self.view_is) c.deref-2.result.now are c.ends_by.result
    c.args.offset c.ends_by.ensures.parts
