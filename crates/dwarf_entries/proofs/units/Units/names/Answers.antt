use Rattle.dwarf_entries.proofs.{names-by-reference}
use Rattle.dwarf_entries.proofs.units.Units.names.Goals as goal

pub returns-in-Some-clause-names : goal.returns-in-Some-clause-names
returns-in-Some-clause-names c m at =
    rw (names-by-reference c.args.self.now.sections c.args.self.now.units c.args.start.unit
    c.args.start.entry m c.in-Some.reference at c.in-Some.ensures.some)
    (c.target_names.ensures.names m.unit at.unit_is)
