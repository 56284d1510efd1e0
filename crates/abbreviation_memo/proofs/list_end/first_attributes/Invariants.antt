use Rattle.dwarf_forms.{proofs.Loops.ItemsSoFar, specs.Tables.attribute_at}
use Rattle.std.proofs.Common.{length, ◌-◌, ◌≤◌}
use Rattle.abbreviation_memo.proofs.list_end.first_attributes.Given as goal

abbrev pub invariant-loop-alloc : goal.invariant-loop-alloc
invariant-loop-alloc l = record {
  few : length l.first.items ≤ 64;
  read : ItemsSoFar attribute_at l.fn.cursor.place l.fn.cursor.bytes l.first.items l.cursor;
}

abbrev pub decreases-loop-alloc : goal.decreases-loop-alloc
decreases-loop-alloc l = 64 - length l.first.items
