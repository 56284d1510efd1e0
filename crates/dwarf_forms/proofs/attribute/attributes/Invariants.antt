use Rattle.dwarf_forms.specs.{Private.Index.ContainsNames, Tables.attribute_at}
use Rattle.std.proofs.Common.{length, ◌-◌}
use Rattle.dwarf_forms.proofs.Loops.{ItemsSoFar}
use Rattle.dwarf_forms.proofs.attribute.attributes.Given as goal

abbrev pub invariant-loop-names : goal.invariant-loop-names
invariant-loop-names l = record {
  names : ContainsNames l.names l.all.items;
  read : ItemsSoFar attribute_at l.fn.cursor.place l.fn.cursor.bytes l.all.items l.cursor;
}

abbrev pub decreases-loop-names : goal.decreases-loop-names
decreases-loop-names l = length l.cursor.bytes - l.cursor.place
