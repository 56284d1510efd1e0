-- The model of the code's entry reader, and what it reads.
use Rattle.std.specs.Prelude.{ℕ, List, Bool, not, ◌==◌, Result}
use Rattle.dwarf_bytes.specs.declared.constants.TheConstants.{DW_FORM_FLAG_PRESENT}
use Rattle.dwarf_bytes.specs.declared.fault.Cause.{Cause}
use Rattle.dwarf_lines.specs.declared.formats.Field.{Field}
use Rattle.dwarf_lines.specs.declared.entries.IndexedSections.{IndexedSections}
use Rattle.dwarf_lines.specs.declared.entries.Entry.{Entry}
use Rattle.dwarf_lines.specs.declared.entry_tables.FileTableReader.{FileTableReader}
use Rattle.dwarf_lines.specs.Sections.{LineSections}
use Rattle.dwarf_lines.specs.Entries.{field_at, fields_at, no_entry, entry_at, repeated_at}
use Rattle.dwarf_lines.specs.Entries.{table_at}

abbrev pub sections_of : IndexedSections → LineSections
sections_of s = record { line = s.line.now; line_str = s.line_str.now; str = s.str.now }

-- one field of an entry, and all fields
abbrev pub field_by : FileTableReader → Field → Entry → List ℕ → ℕ → Result (Entry × ℕ) Cause
field_by reader = field_at (sections_of reader.sections) reader.format reader.table

abbrev pub fields_by : FileTableReader → List Field → List ℕ → ℕ → Result (Entry × ℕ) Cause
fields_by reader fields =
    fields_at (sections_of reader.sections) reader.format reader.table fields no_entry

-- an entry, count entries, and a whole table
abbrev pub entry_by : FileTableReader → List Field → List ℕ → ℕ → Result (Entry × ℕ) Cause
entry_by reader fields = entry_at (sections_of reader.sections) reader.format reader.table fields

abbrev pub entries_by : FileTableReader → List Field → ℕ → List ℕ → ℕ → Result (List Entry
    × ℕ) Cause
entries_by reader fields count = repeated_at (entry_by reader fields) count

abbrev pub table_by : FileTableReader → List ℕ → ℕ → Result (List Entry × ℕ) Cause
table_by reader = table_at (sections_of reader.sections) reader.format reader.table

-- whether the values of a field have bytes: DW_FORM_flag_present has none
abbrev pub has_bytes : Field → Bool
has_bytes field = not (field.form == DW_FORM_FLAG_PRESENT)
