use Rattle.std.proofs.Common.{◌∙◌, subst, List, filter}
use Rattle.dwarf_bytes.specs.Refusals.{ReadsItems}
use Rattle.dwarf_lines.specs.declared.formats.Field.{Field}
use Rattle.dwarf_lines.specs.Private.Readers.{sections_of, entries_by, has_bytes}
use Rattle.dwarf_lines.proofs.Headers.FieldsWithBytes.{entries-with-bytes, reads-same}
use Rattle.dwarf_lines.proofs.entry_tables.FileTableReader.entries.Goals as goal

pub returns : goal.returns
returns c =
    let reader = c.args.self.now in
    let fields = c.args.fields.items in
    let old = c.args.cursor.now in
    let read : List Field → Type 0 = λ fs. ReadsItems c.entries_by.result
    (entries_by reader fs c.args.count) old c.entries_by.new.cursor in
    let some : read (filter has_bytes fields) =
    subst read (c.as_slice.ensures.value ∙ c.fields_with_bytes-fields.ensures)
    c.entries_by.ensures in
    reads-same c.entries_by.result (entries_by reader (filter has_bytes fields) c.args.count)
    (entries_by reader fields c.args.count) old c.entries_by.new.cursor
    (entries-with-bytes (sections_of reader.sections) reader.format reader.table fields c.args.count
    c.requires old.bytes old.place) some
