use Rattle.std.proofs.Common.{◌≡◌, drop}
use Rattle.dwarf_lines.specs.Private.Readers.{sections_of}
use Rattle.dwarf_lines.specs.Entries.{fields_at, no_entry}
use Rattle.dwarf_lines.proofs.entry_tables.FileTableReader.fields.Given as goal

abbrev pub invariant-loop-field : goal.invariant-loop-field
invariant-loop-field l =
    let read = fields_at (sections_of l.self.sections) l.self.format l.self.table in record {
      same : l.cursor.bytes ≡ l.fn.cursor.bytes;
      rest : read (drop l.field-index l.fields) l.entry l.cursor.bytes l.cursor.place
          ≡ read l.fields no_entry l.fn.cursor.bytes l.fn.cursor.place;
    }
