use Rattle.dwarf_units.proofs.{◌≤◌, ◌-◌, length, header_at, SoFar}
use Rattle.dwarf_units.proofs.unit_headers.headers.Given as goal

abbrev pub invariant-loop-at : goal.invariant-loop-at
invariant-loop-at l = record {
  within : l.at ≤ length l.info;
  read : SoFar (length l.info) (header_at l.info) 0 l.all.items l.at;
}

abbrev pub decreases-loop-at : goal.decreases-loop-at
decreases-loop-at l = length l.info - l.at
