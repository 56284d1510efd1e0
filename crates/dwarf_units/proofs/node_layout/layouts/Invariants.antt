use Rattle.dwarf_units.specs.Private.NodeLayouts.{AreLayouts}
use Rattle.dwarf_units.proofs.node_layout.layouts.Given as goal

abbrev pub invariant-loop-code : goal.invariant-loop-code
invariant-loop-code l =
    AreLayouts l.table.format l.table.declarations l.code l.layouts.items
