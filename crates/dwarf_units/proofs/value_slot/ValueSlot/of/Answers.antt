use Rattle.dwarf_units.proofs.{arith, common_steps, width_value}
use Rattle.dwarf_units.proofs.value_slot.ValueSlot.of.Goals as goal

pub returns : goal.returns
returns c = λ bytes first. grind (
  arith,
  common_steps,
  width_value c.args.width c.in_ok-ok.field-0 c.in_ok-ok-2.field-0 bytes first,
)
