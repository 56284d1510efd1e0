use Rattle.dwarf_entries.proofs.{◌≡◌, Member, IsMember, Followed}
use Rattle.dwarf_entries.proofs.units.Units.first_names.Given as goal

abbrev pub invariant-loop-last : goal.invariant-loop-last
invariant-loop-last l = record {
  same : l.self ≡ l.fn.self;
  so_far : (m : Member) → IsMember l.fn.self.units l.fn.start.unit l.fn.start.entry m
      → Followed l.fn.self.units l.fn.remaining m l.left l.last l.firsts;
}

abbrev pub decreases-loop-last : goal.decreases-loop-last
decreases-loop-last l = l.left
