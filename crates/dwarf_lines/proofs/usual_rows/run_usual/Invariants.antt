use Rattle.std.proofs.Common.{length, ◌-◌, ◌≤◌}
use Rattle.dwarf_lines.specs.Instructions.{encoding}
use Rattle.dwarf_lines.specs.Private.Runs.{AreUsual, Runs, machine_of}
use Rattle.dwarf_lines.proofs.usual_rows.run_usual.Given as goal

abbrev pub invariant-loop-at : goal.invariant-loop-at
invariant-loop-at l = record {
  within : l.at ≤ length l.bytes;
  moved : l.fn.cursor.place ≤ l.at;
  usual : AreUsual l.origin l.usual;
  runs : Runs (encoding l.header) l.origin l.bytes l.fn.cursor.place l.fn.registers l.fn.rows.items
      l.at (machine_of l.usual) l.rows.items;
}

abbrev pub decreases-loop-at : goal.decreases-loop-at
decreases-loop-at l = length l.bytes - l.at
