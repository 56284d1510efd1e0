use Rattle.dwarf_units.proofs.{◌≡◌, drop, attributes_in, with_used}
use Rattle.dwarf_units.proofs.attribute_run.Stretch.read.Given as goal

abbrev pub invariant-loop-position : goal.invariant-loop-position
invariant-loop-position l =
    with_used l.found (attributes_in l.first.bytes l.first.place
    (drop l.position-index l.position-items))
    ≡ with_used l.fn.found (attributes_in l.first.bytes l.first.place l.self.used)
