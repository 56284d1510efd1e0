use Rattle.std.proofs.Common.{is_some, length, true, ℕ, ◌-◌, ◌<◌, ◌≡◌}
use Rattle.dwarf_walk.specs.Private.Readers.{TakesNodes, state_of}
use Rattle.dwarf_walk.proofs.walk.Walk.fixed_size_nodes.Given as goal

abbrev pub invariant-loop-shape : goal.invariant-loop-shape
invariant-loop-shape l = record {
  rooted : 0 < l.depths.next → is_some l.self.root ≡ true;
  taken : (count : ℕ) × TakesNodes count l.table.format l.table.declarations l.unit l.fn.start
      (state_of l.fn.self l.fn.depths) l.fn.bitmap l.place (state_of l.self l.depths) l.bitmap;
}

abbrev pub decreases-loop-shape : goal.decreases-loop-shape
decreases-loop-shape l = length l.unit - l.place
