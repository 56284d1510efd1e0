use Rattle.dwarf_units.proofs.{◌≡◌, ap, sym, ◌∙◌, Some, slice_get, option_copied, same_Some, got}
use Rattle.dwarf_units.proofs.{index-some, index-stays}
use Rattle.dwarf_units.proofs.table_store.TableStore.is_index.Goals as goal

there : (c : goal.After-is_of) → slice_get c.self.inside.tables.items c.args.number
    ≡ Some c.in-Some.table.now
there c = rw (← c.deref.ensures.value)
    (sym (got c.deref.result.now c.args.number c.get.result c.get.ensures.lookup.0
    c.get.ensures.lookup.1) ∙ ap (λ r. option_copied r) c.in-Some.is)

pub returns-clause-some : goal.returns-clause-some
returns-clause-some c is = rw (← c.self.view_is)
    (index-some _ _ c.self.invariant (c.in-Some.table.now, there c, c.is_of.ensures.0 is))

pub returns-clause-stays : goal.returns-clause-stays
returns-clause-stays c is = rw (← c.self.view_is)
    (index-stays c.args.unit.now c.args.number c.self.invariant
    (c.in-Some.table.now, there c, c.is_of.ensures.0 is))

pub returns-clause-none : goal.returns-clause-none
returns-clause-none c is =
    let found = rw (← c.self.view_is) at is.1 in
    c.is_of.ensures.1 (rw (same_Some is.0 c.in-Some.table.now (sym found ∙ there c)) at is.2)
