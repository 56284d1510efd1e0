use Rattle.dwarf_entries.proofs.{◌≡◌, ◌-◌, take, ◌^◌, min, scope_count}
use Rattle.dwarf_entries.proofs.unit_scopes.scope_count.Given as goal

abbrev pub invariant-loop-unit : goal.invariant-loop-unit
invariant-loop-unit l = l.count ≡ min (scope_count (take l.unit-index l.units)) (2 ^ 64 - 1)
