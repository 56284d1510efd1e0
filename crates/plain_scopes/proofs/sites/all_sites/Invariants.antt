use Rattle.std.proofs.Common.{◌≡◌, ◌++◌, drop}
use Rattle.dwarf_entries.specs.Scopes.{all_sites}
use Rattle.plain_scopes.proofs.sites.all_sites.Given as goal

abbrev pub invariant-loop-unit : goal.invariant-loop-unit
invariant-loop-unit l =
    l.sites.items ++ all_sites (drop l.unit-index l.units) ≡ all_sites l.units
