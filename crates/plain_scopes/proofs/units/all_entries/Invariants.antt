use Rattle.std.proofs.Common.{zip}
use Rattle.dwarf_entries.specs.{Passes.PassedTo, Units.unit_of}
use Rattle.plain_scopes.proofs.units.all_entries.Given as goal

abbrev pub invariant-loop-index : goal.invariant-loop-index
invariant-loop-index l =
    PassedTo (λ _ p. unit_of l.info p.0 p.1) (zip l.headers l.tables) l.index l.units.items
