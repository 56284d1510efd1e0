use Rattle.dwarf_entries.proofs.{arith, refl, slice_get_past, scopes-at, found-at}
use Rattle.dwarf_entries.proofs.scope_lists.ScopeLists.get.Goals as goal

pub returns-in_err-scope : goal.returns-in_err-scope
returns-in_err-scope c roots =
    let lists = c.args.self.now in
    let at = scopes-at roots lists.wide.items lists.ranges.items 0 lists.scopes.items
    c.args.number in
    grind (arith, at, slice_get_past)

pub returns : goal.returns
returns c roots =
    let lists = c.args.self.now in
    let at = scopes-at roots lists.wide.items lists.ranges.items 0 lists.scopes.items
    c.args.number in
    rw (at, found-at _ _ c.args.number _ c.deref.ensures.value c.in_ok-scope.ensures.lookup.3) refl
