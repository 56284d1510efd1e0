use Rattle.dwarf_units.proofs.{◌≡◌, drop, all_at, runs_at, used_after}
use Rattle.dwarf_units.proofs.attribute_runs.AttributeRuns.read.Given as goal

abbrev pub invariant-loop-run : goal.invariant-loop-run
invariant-loop-run l = record {
  bytes : l.cursor.bytes ≡ l.fn.cursor.bytes;
  stored : used_after l.found (runs_at l.keep l.format (drop l.run-index l.run-items) l.self.rest
      l.fn.cursor.bytes l.cursor.place)
      ≡ used_after l.fn.found (all_at l.keep l.format l.self l.fn.cursor.bytes l.fn.cursor.place);
}
