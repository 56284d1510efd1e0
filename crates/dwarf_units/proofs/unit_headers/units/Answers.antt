use Rattle.std.proofs.{Common.rules, lemmas.List.Elements.filter_from_retain}
use Rattle.dwarf_units.{proofs.{arith, filter, is_read, ◌≡◌}, specs.Units.units_of}
use Rattle.dwarf_units.proofs.unit_headers.units.Goals as goal

pub returns : goal.returns
unfolding units_of
returns c =
    let stored : c.retain.new.self.items ≡ filter is_read c.in_ok-all.all.items =
    filter_from_retain _ is_read (λ p x b q k. search rules) _ c.in_ok-all.all.items
    c.retain.new.self.items c.retain.ensures.filtered in
    grind (arith, stored, c.in_ok-all.ensures)
