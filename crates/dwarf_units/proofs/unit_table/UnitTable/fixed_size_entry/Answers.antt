use Rattle.dwarf_units.proofs.{ap, arith, common_steps, layout-entry, option_copied, sym, ◌∙◌}
use Rattle.dwarf_units.proofs.unit_table.UnitTable.fixed_size_entry.Goals as goal

pub returns-clause-entry : goal.returns-clause-entry
returns-clause-entry c =
    let slots = (rw c.in-Some.is at c.in_ok-layout.ensures).slots in
    let some = sym c.as_ref.ensures.value ∙ ap (λ r. option_copied r) c.in_ok-slots.was in
    let read = layout-entry c.args.self.now c.in_ok-code.code
    c.in_ok-code.start c.args.bytes.now c.args.place c.in-Some.layout
    c.in_ok-slots.slots.now slots some (sym c.short_code.ensures.code ∙ c.in_ok-code.was)
    (omega (arith, c.if-bytes-after.false, c.from.ensures)) in
    grind (arith, common_steps, read)
