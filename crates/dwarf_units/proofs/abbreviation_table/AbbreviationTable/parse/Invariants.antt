use Rattle.dwarf_forms.{proofs.Loops.ItemsSoFar, specs.Tables.declaration_at}
use Rattle.dwarf_units.proofs.{All, IsStored, full_declarations, length, map, unshared_count, ◌*◌}
use Rattle.dwarf_units.proofs.{◌-◌, ◌≡◌, ◌≤◌}
use Rattle.dwarf_units.proofs.abbreviation_table.AbbreviationTable.parse.Given as goal

abbrev pub invariant-loop-first : goal.invariant-loop-first
invariant-loop-first l = record {
  section : l.linked ≡ l.fn.linked;
  so_far : ItemsSoFar (declaration_at l.fn.budget) l.fn.offset l.fn.linked
      (full_declarations l.fn.linked l.declarations.items) l.cursor;
  stored : All (IsStored l.fn.linked l.fn.format) l.declarations.items;
  codes : l.codes ≡ map (λ d. d.head.code) l.declarations.items;
  count : l.unshared ≡ unshared_count (full_declarations l.fn.linked l.declarations.items);
  small : l.unshared ≤ 64 * length l.declarations.items;
}

abbrev pub decreases-loop-first : goal.decreases-loop-first
decreases-loop-first l = length l.cursor.bytes - l.cursor.place
