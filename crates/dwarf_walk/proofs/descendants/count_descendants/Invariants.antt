use Rattle.std.proofs.Common.{length, ◌≡◌, drop}
use Rattle.dwarf_walk.specs.Private.WalkedScopes.{counted_places}
use Rattle.dwarf_walk.proofs.descendants.count_descendants.Given as goal

abbrev pub invariant-loop-index : goal.invariant-loop-index
invariant-loop-index l = record {
  length : length l.places.items ≡ length l.walked;
  places : drop l.index l.places.items ≡ counted_places (drop l.index l.walked);
}
