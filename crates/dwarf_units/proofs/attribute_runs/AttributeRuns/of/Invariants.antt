use Rattle.dwarf_units.proofs.{◌≡◌, ◌++◌, drop, runs_from, runs_of}
use Rattle.dwarf_units.proofs.attribute_runs.AttributeRuns.of.Given as goal

abbrev pub invariant-loop-specification : goal.invariant-loop-specification
invariant-loop-specification l =
    let others = runs_from l.format l.len l.used.items (drop l.specification-index l.declared) in
    record others { runs = l.runs.items ++ others.runs } ≡ runs_of l.format l.declared
