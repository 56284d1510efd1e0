use Rattle.std.proofs.Common.{◌≡◌, ◌-◌}
use Rattle.dwarf_lines.specs.Private.Readers.{sections_of}
use Rattle.dwarf_lines.specs.Entries.{entry_at, repeated_at}
use Rattle.dwarf_lines.proofs.Lists.Repeated.{with_items}
use Rattle.dwarf_lines.proofs.entry_tables.FileTableReader.entries_by.Given as goal

abbrev pub invariant-loop : goal.invariant-loop
invariant-loop l =
    let item = entry_at (sections_of l.self.sections) l.self.format l.self.table l.fields in
    record {
      same : l.cursor.bytes ≡ l.fn.cursor.bytes;
      rest : with_items l.entries.items (repeated_at item (l.count - l.counter) l.cursor.bytes
          l.cursor.place) ≡ repeated_at item l.count l.fn.cursor.bytes l.fn.cursor.place;
    }
