use Rattle.dwarf_walk.specs.Sections.{sections_of}
use Rattle.std.proofs.Common.{length, ◌-◌}
use Rattle.dwarf_ranges.proofs.ListLaws.{ListSoFar}
use Rattle.dwarf_ranges.proofs.ranges.add_list.Given as goal

abbrev pub invariant-loop-entry : goal.invariant-loop-entry
invariant-loop-entry l =
    ListSoFar l.budget (sections_of l.sections) l.bases l.place l.fn.all.items l.cursor l.items
    l.base l.all.items

abbrev pub decreases-loop-entry : goal.decreases-loop-entry
decreases-loop-entry l = length l.cursor.bytes - l.cursor.place
