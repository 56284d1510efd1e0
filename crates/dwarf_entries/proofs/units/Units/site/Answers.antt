use Rattle.dwarf_entries.proofs.{arith, element, object-units, seen, site-read, sites-stored}
use Rattle.dwarf_entries.proofs.{sites_in, stored-there, with-reader}
use Rattle.dwarf_entries.proofs.units.Units.site.Goals as goal

pub index-place-requires : goal.index-place-requires
index-place-requires c =
    let u = element c.args.self.now.units c.args.unit c.requires.unit in
    let within = c.requires.index u.0 u.1 in
    let k = c.index-stored.result.now in
    let same = stored-there _ _ (seen c.self.invariant c.self.view_is).stored_are _ k u.0 u.1
    c.index-stored.ensures in
    omega (arith, within, k.scopes.ok.0, sites-stored k u.0 same)

pub invariant_of-self : goal.invariant_of-self
invariant_of-self c = with-reader c.self.invariant c.in-Err.ensures.reader

pub returns-in-Err-clause-site : goal.returns-in-Err-clause-site
returns-in-Err-clause-site c u found =
    let are = seen c.self.invariant c.self.view_is in
    let p = element (sites_in u u.dies) c.args.index (c.requires.index u found) in
    let k = c.index-stored.result.now in
    let r = site-read _ _ c.args.unit c.args.index u p.0 k _ (object-units _ _ c.self.view_is)
    (stored-there _ _ are.stored_are _ k u found c.index-stored.ensures) found p.1
    c.index-place.ensures in
    grind (arith, r, c.in-Err.ensures.scope _ r.1.table are.reader_is r.1.table_is)

pub invariant_of-self-2 : goal.invariant_of-self-2
invariant_of-self-2 c = with-reader c.self.invariant c.in-Ok.ensures.reader

pub returns-clause-site : goal.returns-clause-site
returns-clause-site c u found =
    let are = seen c.self.invariant c.self.view_is in
    let p = element (sites_in u u.dies) c.args.index (c.requires.index u found) in
    let k = c.index-stored.result.now in
    let r = site-read _ _ c.args.unit c.args.index u p.0 k _ (object-units _ _ c.self.view_is)
    (stored-there _ _ are.stored_are _ k u found c.index-stored.ensures) found p.1
    c.index-place.ensures in
    grind (arith, p.1, r, c.in-Ok.ensures.scope _ r.1.table are.reader_is r.1.table_is)
