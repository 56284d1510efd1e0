use Rattle.dwarf_entries.proofs.{◌≡◌, ◌-◌, ◌+◌, ℕ, length, slot_at}
use Rattle.dwarf_entries.proofs.name_cache.NameCache.reach.Given as goal

abbrev pub invariant-loop-self : goal.invariant-loop-self
invariant-loop-self l = record {
  same : (at : ℕ) → slot_at l.self at ≡ slot_at l.fn.self at;
}

abbrev pub decreases-loop-self : goal.decreases-loop-self
decreases-loop-self l = l.slot + 1 - length l.self.slots.items
