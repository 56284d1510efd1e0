-- The entries of the directory table and the file table of a line program header (DWARF 5, 6.2.4
-- and 6.2.4.1).
use Rattle.std.specs.Prelude.{ℕ, zero, suc, List, [], ◌∷◌, length, Bool, true, not, ◌&&◌, Result}
use Rattle.std.specs.Prelude.{Ok, Err, slice_index, nat_lt, ◌==◌, if◌then◌else◌}
use Rattle.std.specs.Option.{option_map_or}
use Rattle.dwarf_bytes.specs.declared.constants.TheConstants.{DW_FORM_STRING, DW_FORM_STRP}
use Rattle.dwarf_bytes.specs.declared.constants.TheConstants.{DW_FORM_DATA1, DW_FORM_DATA2}
use Rattle.dwarf_bytes.specs.Bind.{◌>>=◌}
use Rattle.dwarf_bytes.specs.Items.{reading, refuse_if}
use Rattle.dwarf_bytes.specs.Numbers.{u8_at, u16_at, uleb_at, cstr_at, text_at, offset_at}
use Rattle.dwarf_bytes.specs.Contents.{content_at}
use Rattle.dwarf_bytes.specs.declared.format.Format.{Format}
use Rattle.dwarf_bytes.specs.declared.fault.Section.{Section}
use Rattle.dwarf_bytes.specs.declared.fault.Section.TheVariants as sections
use Rattle.dwarf_bytes.specs.declared.fault.Cause.{Cause}
use Rattle.dwarf_bytes.specs.declared.fault.Cause.TheVariants as causes
use Rattle.dwarf_lines.specs.declared.formats.Field.{Field}
use Rattle.dwarf_lines.specs.declared.formats.EntryTable.{EntryTable}
use Rattle.dwarf_lines.specs.declared.formats.EntryTable.TheVariants.{Directories, Files}
use Rattle.dwarf_lines.specs.declared.entries.PathText.{PathText}
use Rattle.dwarf_lines.specs.declared.entries.Entry.{Entry}
use Rattle.dwarf_lines.specs.Sections.{LineSections}
use Rattle.dwarf_lines.specs.Formats.{is_path, is_index, layout_of, is_format}

-- the location of a string, and whether it starts with a slash
abbrev pub text_from : Section → ℕ → List ℕ → PathText
text_from section place text = record {
  part = record { section = section; span = record { place = place; len = length text } };
  absolute = slice_index text 0 == 47;
}

-- the string of a section whose offset is encoded at an offset (7.5.5: strp, line_strp)
abbrev pub text_by_offset : Format → Section → List ℕ → List ℕ → ℕ → Result (PathText × ℕ) Cause
text_by_offset format section texts bytes place = do
  offset ← reading (offset_at format bytes place)
  text ← reading (text_at texts offset.0)
  Ok (text_from section offset.0 text, offset.1)

-- the string at an offset (7.5.5: string)
abbrev pub text_here : List ℕ → ℕ → Result (PathText × ℕ) Cause
text_here bytes place = do
  text ← reading (cstr_at bytes place)
  Ok (text_from sections.DebugLine place text.0, text.1)

-- a path with a form
abbrev pub path_at : LineSections → Format → ℕ → List ℕ → ℕ → Result (PathText × ℕ) Cause
path_at s format form bytes place =
    if form == DW_FORM_STRING then text_here bytes place
    else if form == DW_FORM_STRP then text_by_offset format sections.DebugStr s.str bytes place
    else text_by_offset format sections.DebugLineStr s.line_str bytes place

-- a directory index with a form
abbrev pub index_at : ℕ → List ℕ → ℕ → Result (ℕ × ℕ) Cause
index_at form bytes place =
    if form == DW_FORM_DATA1 then reading (u8_at bytes place)
    else if form == DW_FORM_DATA2 then reading (u16_at bytes place)
    else reading (uleb_at bytes place)

-- the offset after a skipped value
abbrev pub after_value : Format → ℕ → List ℕ → ℕ → Result ℕ Cause
after_value format form bytes place =
    option_map_or (λ layout. reading (content_at layout format bytes place)
    >>= λ content. Ok content.1)
    (layout_of form) (Err causes.FileFormat)

-- One field of an entry. A path or a directory index is stored; any other value is skipped.
unfoldable pub field_at : LineSections → Format → EntryTable → Field → Entry → List ℕ → ℕ
    → Result (Entry × ℕ) Cause
field_at s format table field entry bytes place =
    if is_path field then (path_at s format field.form bytes place
    >>= λ text. Ok (record entry { path = text.0 }, text.1))
    else if is_index table field
    then (index_at field.form bytes place
    >>= λ index. Ok (record entry { directory = index.0 }, index.1))
    else after_value format field.form bytes place >>= λ after. Ok (entry, after)

-- the fields of an entry, in the order of the format
unfoldable pub fields_at : LineSections → Format → EntryTable → List Field → Entry → List ℕ → ℕ
    → Result (Entry × ℕ) Cause
fields_at s format table [] entry bytes place = Ok (entry, place)
fields_at s format table (field ∷ fields) entry bytes place = do
  next ← field_at s format table field entry bytes place
  fields_at s format table fields next.0 bytes next.1

-- an entry without fields: an empty path, and directory 0
abbrev pub no_entry : Entry
no_entry = record { path = text_from sections.DebugLine 0 []; directory = 0 }

-- whether the directory of an entry exists
abbrev pub has_directory : EntryTable → Entry → Bool
has_directory Directories entry = true
has_directory (Files directories) entry = nat_lt entry.directory directories

-- an entry, validated after its fields are read
unfoldable pub entry_at : LineSections → Format → EntryTable → List Field → List ℕ → ℕ
    → Result (Entry × ℕ) Cause
entry_at s format table fields bytes place = do
  entry ← fields_at s format table fields no_entry bytes place
  _ ← refuse_if (not (has_directory table entry.0)) causes.DirIndex
  Ok entry

-- count consecutive items
unfoldable pub repeated_at : {X : Type 0} → (List ℕ → ℕ → Result (X × ℕ) Cause) → ℕ → List ℕ → ℕ
    → Result (List X × ℕ) Cause
repeated_at item zero bytes place = Ok ([], place)
repeated_at item (suc count) bytes place = do
  first ← item bytes place
  rest ← repeated_at item count bytes first.1
  Ok (first.0 ∷ rest.0, rest.1)

-- a field of a format: its content type and its form
unfoldable pub format_at : List ℕ → ℕ → Result (Field × ℕ) Cause
format_at bytes place = do
  content ← reading (uleb_at bytes place)
  form ← reading (uleb_at bytes content.1)
  Ok (record { content = content.0; form = form.0 }, form.1)

-- A table: its format, its entry count, and its entries. The format of a table without entries is
-- not validated.
unfoldable pub table_at : LineSections → Format → EntryTable → List ℕ → ℕ
    → Result (List Entry × ℕ) Cause
table_at s format table bytes place = do
  format_count ← reading (u8_at bytes place)
  fields ← repeated_at format_at format_count.0 bytes format_count.1
  count ← reading (uleb_at bytes fields.1)
  _ ← refuse_if (not (count.0 == 0) && not (is_format table fields.0)) causes.FileFormat
  repeated_at (entry_at s format table fields.0) count.0 bytes count.1
