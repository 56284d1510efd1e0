use Rattle.dwarf_forms.{proofs.Loops.ItemsSoFar, specs.Tables.declaration_at}
use Rattle.std.proofs.Common.{length, ◌-◌}
use Rattle.dwarf_forms.proofs.table.declarations.Given as goal

abbrev pub invariant-loop-table : goal.invariant-loop-table
invariant-loop-table l =
    ItemsSoFar (declaration_at l.fn.budget) l.fn.cursor.place l.fn.cursor.bytes l.table l.cursor

abbrev pub decreases-loop-table : goal.decreases-loop-table
decreases-loop-table l = length l.cursor.bytes - l.cursor.place
