use Rattle.std.proofs.Common.{◌≡◌, ◌++◌, length}
use Rattle.dwarf_entries.specs.Scopes.{sites_in}
use Rattle.plain_scopes.proofs.sites.add_sites.Given as goal

abbrev pub invariant-loop-die : goal.invariant-loop-die
invariant-loop-die l = l.sites.items ++ sites_in l.unit l.rest
    ≡ l.fn.sites.items ++ sites_in l.unit l.unit.dies

abbrev pub decreases-loop-die : goal.decreases-loop-die
decreases-loop-die l = length l.rest
