use Rattle.dwarf_units.specs.Private.Links.{AreLinks}
use Rattle.dwarf_units.proofs.linked_lists.link_all.Given as goal

abbrev pub invariant-loop-index : goal.invariant-loop-index
invariant-loop-index l = AreLinks l.lists l.links
