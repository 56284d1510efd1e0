use Rattle.dwarf_units.{proofs.drop, specs.Private.Slots.AreSlots}
use Rattle.dwarf_units.proofs.value_slot.slots_of.Given as goal

abbrev pub invariant-loop-index : goal.invariant-loop-index
invariant-loop-index l = AreSlots (drop l.index l.used) l.slots
