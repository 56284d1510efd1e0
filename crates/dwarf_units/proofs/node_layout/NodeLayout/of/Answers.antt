use Rattle.dwarf_units.proofs
use proofs.{◌≡◌, ◌∙◌, None, arith, common_steps, fixed-used, if_some-map, sym, whole-list}
use Rattle.dwarf_units.proofs.node_layout.NodeLayout.of.Goals as goal

pub returns : goal.returns
returns c section is =
    let none : c.args.declaration.now.rest ≡ None =
    grind (arith, c.is_some.ensures, c.if-is_some.false) in
    let starts = rw none at is.starts in
    let whole = whole-list section c.args.declaration.now.attributes is.first starts in record {
      shape = grind (arith, common_steps, whole, starts.full, is.runs);
      slots = if_some-map c.slots_of-slots.result (λ slots are. λ bytes first le.
          rw (c.from.ensures, whole) (fixed-used c.args.format is.first c.in_ok-len.len slots
          (rw (← is.runs) (sym c.fixed_size.ensures ∙ c.in_ok-len.was))
          (rw (c.last_positions.ensures, is.runs) at are) bytes first (rw c.from.ensures at le)))
          c.slots_of-slots.ensures;
    }
