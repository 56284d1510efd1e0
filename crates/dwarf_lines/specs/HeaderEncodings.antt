-- The encoding of a line program header (DWARF 5, 6.2.4 and 6.2.4.1). An encoded value may depend
-- on the offset of its bytes in the section.
use Rattle.std.specs.Prelude.{◌≡◌, ◌≢◌, ℕ, suc, ◌+◌, ◌<◌, List, [], ◌∷◌, ◌++◌, length, true, false}
use Rattle.std.specs.Prelude.{Some, count_by}
use Rattle.dwarf_bytes.specs.declared.constants.TheConstants.{DW_FORM_STRING, DW_FORM_STRP}
use Rattle.dwarf_bytes.specs.declared.constants.TheConstants.{DW_FORM_LINE_STRP, DW_FORM_DATA1}
use Rattle.dwarf_bytes.specs.declared.constants.TheConstants.{DW_FORM_DATA2, DW_FORM_UDATA}
use Rattle.dwarf_bytes.specs.Numbers.{IsFixed, IsUleb, IsText, IsInitialLength, IsEncodedAt}
use Rattle.dwarf_bytes.specs.Numbers.{offset_len}
use Rattle.dwarf_bytes.specs.Contents.{Content, EncodesContent}
use Rattle.dwarf_bytes.specs.declared.format.Format.{Format}
use Rattle.dwarf_bytes.specs.declared.form.ValueLayout.{ValueLayout}
use Rattle.dwarf_bytes.specs.declared.fault.Section.TheVariants as sections
use Rattle.dwarf_lines.specs.declared.formats.Field.{Field}
use Rattle.dwarf_lines.specs.declared.formats.EntryTable.{EntryTable}
use Rattle.dwarf_lines.specs.declared.formats.EntryTable.TheVariants.{Directories, Files}
use Rattle.dwarf_lines.specs.declared.entries.PathText.{PathText}
use Rattle.dwarf_lines.specs.declared.entries.Entry.{Entry}
use Rattle.dwarf_lines.specs.Sections.{LineSections}
use Rattle.dwarf_lines.specs.Formats.{is_path, is_index, layout_of, is_format}
use Rattle.dwarf_lines.specs.Entries.{text_from, has_directory}
use Rattle.dwarf_lines.specs.Instructions.{Encoding}
use Rattle.dwarf_lines.specs.Headers.{LineHeader, are_standard, signed_byte}

-- Consecutive ranges of the bytes at the offset encode the elements, in order.
abbrev pub EncodesEach : {X : Type 0} → (ℕ → List ℕ → X → Type 0) → ℕ → List ℕ → List X → Type 0
EncodesEach encodes place bytes [] = bytes ≡ []
EncodesEach encodes place bytes (x ∷ xs) =
    (front rest : List ℕ) × (bytes ≡ front ++ rest) × encodes place front x
    × EncodesEach encodes (place + length front) rest xs

-- The bytes encode a field of a format: a content type and a form. The offset does not matter.
pub record EncodesField (place : ℕ) (bytes : List ℕ) (field : Field) : Type 0 where
  pub content : List ℕ
  pub form : List ℕ
  pub whole : bytes ≡ content ++ form
  pub content_is : IsUleb content field.content
  pub form_is : IsUleb form field.form

-- The bytes at the offset encode a path with a form (7.5.5): a string, or an offset of one in its
-- section.
pub data EncodesPath (s : LineSections) (format : Format) (place : ℕ) : ℕ → List ℕ → PathText
    → Type 0 where
  string : {bytes : List ℕ} → (text : List ℕ) → IsText bytes text
      → EncodesPath s format place DW_FORM_STRING bytes (text_from sections.DebugLine place text)
  strp : {bytes : List ℕ} → (offset past : ℕ) (text : List ℕ)
      → IsFixed (offset_len format) bytes offset
      → IsEncodedAt IsText s.str offset text past
      → EncodesPath s format place DW_FORM_STRP bytes (text_from sections.DebugStr offset text)
  line_strp : {bytes : List ℕ} → (offset past : ℕ) (text : List ℕ)
      → IsFixed (offset_len format) bytes offset
      → IsEncodedAt IsText s.line_str offset text past
      → EncodesPath s format place DW_FORM_LINE_STRP bytes
      (text_from sections.DebugLineStr offset text)

-- The bytes encode a directory index with a form.
pub data EncodesIndex : ℕ → List ℕ → ℕ → Type 0 where
  data1 : {bytes : List ℕ} {index : ℕ} → IsFixed 1 bytes index
      → EncodesIndex DW_FORM_DATA1 bytes index
  data2 : {bytes : List ℕ} {index : ℕ} → IsFixed 2 bytes index
      → EncodesIndex DW_FORM_DATA2 bytes index
  udata : {bytes : List ℕ} {index : ℕ} → IsUleb bytes index → EncodesIndex DW_FORM_UDATA bytes index

-- The bytes at the offset encode a field of the entry: its path, its directory index, or a value
-- that the entry does not store.
pub data EncodesPart (s : LineSections) (format : Format) (table : EntryTable) (entry : Entry)
    (place : ℕ) (bytes : List ℕ) (field : Field) : Type 0 where
  path : is_path field ≡ true → EncodesPath s format place field.form bytes entry.path
      → EncodesPart s format table entry place bytes field
  directory : is_index table field ≡ true → EncodesIndex field.form bytes entry.directory
      → EncodesPart s format table entry place bytes field
  other : (layout : ValueLayout) (content : Content) → is_path field ≡ false → is_index table field
      ≡ false
      → layout_of field.form ≡ Some layout → EncodesContent layout format bytes content
      → EncodesPart s format table entry place bytes field

-- The bytes at the offset encode an entry: its fields, in the order of the format. Its directory
-- exists, and is directory 0 if the format has no directory index.
pub record EncodesEntry (s : LineSections) (format : Format) (table : EntryTable)
    (fields : List Field) (place : ℕ) (bytes : List ℕ) (entry : Entry) : Type 0 where
  pub parts : EncodesEach (EncodesPart s format table entry) place bytes fields
  pub default_directory : count_by (is_index table) fields ≡ 0 → entry.directory ≡ 0
  pub in_table : has_directory table entry ≡ true

-- The bytes at the offset encode a table: the number of fields of its format, the format, the
-- number of entries, and the entries. The format of a nonempty table is valid.
pub record EncodesTable (s : LineSections) (format : Format) (table : EntryTable) (place : ℕ)
    (bytes : List ℕ) (entries : List Entry) : Type 0 where
  pub fields : List Field
  pub entry_format : List ℕ
  pub count : List ℕ
  pub items : List ℕ
  pub whole : bytes ≡ (length fields ∷ entry_format) ++ (count ++ items)
  pub fields_are : EncodesEach EncodesField (place + 1) entry_format fields
  pub count_is : IsUleb count (length entries)
  pub valid : 0 < length entries → is_format table fields ≡ true
  pub entries_are : EncodesEach (EncodesEntry s format table fields)
      (place + 1 + length entry_format + length count) items entries

-- The bytes encode the header fields from minimum_instruction_length to standard_opcode_lengths.
-- maximum_operations_per_instruction is 1, line_range is not 0, and each opcode below opcode_base
-- has an operand count.
pub record EncodesParameters (bytes : List ℕ) (e : Encoding) : Type 0 where
  pub default_is_stmt : ℕ
  pub line_base : ℕ
  pub whole : bytes ≡ e.minimum_length ∷ 1 ∷ default_is_stmt ∷ line_base ∷ e.line_range
      ∷ e.opcode_base ∷ e.opcode_lengths
  pub base_is : e.line_base ≡ signed_byte line_base
  pub range : e.line_range ≢ 0
  pub lengths : e.opcode_base ≡ suc (length e.opcode_lengths)
  pub standard : are_standard e.opcode_lengths ≡ true

-- The bytes at the offset are the ones that header_length counts: the fields from
-- minimum_instruction_length to the last file, and unread bytes up to the first instruction.
pub record EncodesFields (s : LineSections) (format : Format) (place : ℕ) (bytes : List ℕ)
    (header : LineHeader) : Type 0 where
  pub encoding : List ℕ
  pub directories : List ℕ
  pub files : List ℕ
  pub unread : List ℕ
  pub whole : bytes ≡ encoding ++ (directories ++ (files ++ unread))
  pub encoding_is : EncodesParameters encoding header.encoding
  pub directories_are : EncodesTable s format Directories (place + length encoding) directories
      header.directories
  pub files_are : EncodesTable s format (Files (length header.directories))
      (place + length encoding + length directories) files header.files
  pub first_is : header.first ≡ place + length bytes

-- The bytes at the offset encode a line program with the header. unit_length is the number of bytes
-- after it, version is 5, address_size is 8, segment_selector_size is 0, and header_length is the
-- number of bytes between it and the instructions.
pub record EncodesHeader (s : LineSections) (place : ℕ) (bytes : List ℕ) (header : LineHeader)
    : Type
    0 where
  pub format : Format
  pub unit_length : List ℕ
  pub unit : List ℕ
  pub header_length : List ℕ
  pub fields : List ℕ
  pub instructions : List ℕ
  pub whole : bytes ≡ unit_length ++ unit
  pub unit_is : unit ≡ (5 ∷ 0 ∷ 8 ∷ 0 ∷ header_length) ++ (fields ++ instructions)
  pub unit_length_is : IsInitialLength format unit_length (length unit)
  pub header_length_is : IsFixed (offset_len format) header_length (length fields)
  pub fields_are : EncodesFields s format (place + length unit_length + 4 + length header_length)
      fields header
  pub past_is : header.past ≡ place + length bytes
