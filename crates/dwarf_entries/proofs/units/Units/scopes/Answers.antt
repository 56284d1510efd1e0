use Rattle.dwarf_entries.proofs.{[], refl, arith, first-all, pass-none, pass-end}
use Rattle.dwarf_entries.proofs.units.Units.scopes.Goals as goal

pub loop-unit-init : goal.loop-unit-init
loop-unit-init c = record {
  same = refl;
  so_far = record {
    parsed = [];
    passed = pass-none;
    described = rw c.in_ok-lists.ensures.scopes refl;
    in_list = rw (c.in_ok-lists.ensures.scopes, c.in_ok-lists.ensures.ranges) refl;
    counted = refl;
  };
}

pub returns-clause-scopes : goal.returns-clause-scopes
returns-clause-scopes c = grind (arith, first-all, pass-end)
