use Rattle.dwarf_forms.proofs.Elements.{any_map}
use Rattle.dwarf_forms.proofs.table.Abbrevs.next_head.Goals as goal

pub returns-clause-fresh : goal.returns-clause-fresh
returns-clause-fresh c =
    simp (c.self.invariant, c.self.view_is, any_map) at c.next.ensures.fresh
