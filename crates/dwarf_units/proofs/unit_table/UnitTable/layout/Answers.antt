use Rattle.dwarf_units.proofs.{layout-at, refl}
use Rattle.dwarf_units.proofs.unit_table.UnitTable.layout.Goals as goal

pub returns : goal.returns
returns c =
    rw (← c.self.view_is) (layout-at c.self.inside.table.now _ c.self.inside.layouts.now
    c.args.code c.get.result refl c.self.invariant.1 c.get.ensures.lookup.0 c.get.ensures.lookup.1)
