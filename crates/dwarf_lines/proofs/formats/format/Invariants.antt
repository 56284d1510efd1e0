use Rattle.std.proofs.Common.{◌≡◌, ◌-◌}
use Rattle.dwarf_lines.specs.Entries.{format_at, repeated_at}
use Rattle.dwarf_lines.proofs.Lists.Repeated.{with_items}
use Rattle.dwarf_lines.proofs.formats.format.Given as goal

abbrev pub invariant-loop : goal.invariant-loop
invariant-loop l = record {
  same : l.cursor.bytes ≡ l.fn.cursor.bytes;
  rest : with_items l.fields.items (repeated_at format_at (l.count - l.counter) l.cursor.bytes
      l.cursor.place) ≡ repeated_at format_at l.count l.fn.cursor.bytes l.fn.cursor.place;
}
