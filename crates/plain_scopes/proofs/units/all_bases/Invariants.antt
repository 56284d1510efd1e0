use Rattle.dwarf_entries.specs.{Passes.PassedTo, Units.with_bases}
use Rattle.dwarf_walk.specs.Sections.{sections_of}
use Rattle.plain_scopes.proofs.units.all_bases.Given as goal

abbrev pub invariant-loop-unit : goal.invariant-loop-unit
invariant-loop-unit l =
    PassedTo (λ _ u. with_bases (sections_of l.sections) u) l.parsed l.unit-index l.units.items
