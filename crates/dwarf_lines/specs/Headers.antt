-- The header of a line program (DWARF 5, 6.2.4), read field by field up to the first fault.
use Rattle.std.specs.Prelude.{ℕ, ◌+◌, ◌-◌, ℤ, pos, ◌-ℤ◌, List, [], ◌∷◌, length, take, drop, Bool}
use Rattle.std.specs.Prelude.{not, Result, Ok, Err, nat_lt, nat_le, ◌==◌, if◌then◌else◌}
use Rattle.std.specs.List.{list_all, zip}
use Rattle.dwarf_bytes.specs.Bind.{◌>>=◌}
use Rattle.dwarf_bytes.specs.Items.{reading, refuse_if}
use Rattle.dwarf_bytes.specs.Numbers.{block_at, u8_at, u16_at, offset_at, initial_length_at}
use Rattle.dwarf_bytes.specs.declared.fault.Cause.{Cause}
use Rattle.dwarf_bytes.specs.declared.fault.Cause.TheVariants as causes
use Rattle.dwarf_lines.specs.declared.formats.EntryTable.TheVariants.{Directories, Files}
use Rattle.dwarf_lines.specs.declared.entries.Entry.{Entry}
use Rattle.dwarf_lines.specs.declared.program_bounds.ProgramBounds.{ProgramBounds}
use Rattle.dwarf_lines.specs.Sections.{LineSections}
use Rattle.dwarf_lines.specs.Instructions.{Encoding}
use Rattle.dwarf_lines.specs.Entries.{table_at}

-- an offset beyond the end of the bytes is refused as short
abbrev pub within : List ℕ → ℕ → Result ℕ Cause
within bytes place = if nat_le place (length bytes) then Ok place else Err causes.Short

-- The bounds of the program at an offset: its format, the offset of the fields after header_length,
-- the offset of the first instruction, and the end of the program. unit_length must be within the
-- section, the other fields within the program.
unfoldable pub bounds_at : List ℕ → ℕ → Result ProgramBounds Cause
bounds_at line place = do
  unit ← reading (initial_length_at line place)
  past ← within line (unit.1 + unit.0.1)
  version ← reading (u16_at (take past line) unit.1)
  _ ← refuse_if (not (version.0 == 5)) causes.Version
  address_size ← reading (u8_at (take past line) version.1)
  _ ← refuse_if (not (address_size.0 == 8)) causes.AddressSize
  segment_size ← reading (u8_at (take past line) address_size.1)
  _ ← refuse_if (not (segment_size.0 == 0)) causes.SegmentSize
  len ← reading (offset_at unit.0.0 (take past line) segment_size.1)
  first ← within (take past line) (len.1 + len.0)
  Ok (record { format = unit.0.0; fields = len.1; first = first; past = past })

-- the operand counts of the standard opcodes 1 to 12 (6.2.5.2)
abbrev pub standard_lengths : List ℕ
standard_lengths = 0 ∷ 1 ∷ 1 ∷ 1 ∷ 1 ∷ 0 ∷ 0 ∷ 0 ∷ 1 ∷ 0 ∷ 0 ∷ 1 ∷ []

-- whether the operand counts, from opcode 1 on, equal the standard's (our choice)
abbrev pub are_standard : List ℕ → Bool
are_standard lengths = list_all (λ pair. pair.0 == pair.1) (zip lengths standard_lengths)

-- The operand counts of count opcodes. The ones that are present are validated, even if the bytes
-- end before the last.
unfoldable pub lengths_at : ℕ → List ℕ → ℕ → Result (List ℕ × ℕ) Cause
lengths_at count bytes place = do
  _ ← refuse_if (not (are_standard (take count (drop place bytes)))) causes.OpcodeLengths
  reading (block_at count bytes place)

-- converts a byte to a number from -128 to 127
abbrev pub signed_byte : ℕ → ℤ
signed_byte byte = pos byte -ℤ pos (if nat_lt byte 128 then 0 else 256)

-- the header fields from minimum_instruction_length to standard_opcode_lengths
unfoldable pub encoding_at : List ℕ → ℕ → Result (Encoding × ℕ) Cause
encoding_at bytes place = do
  minimum ← reading (u8_at bytes place)
  operations ← reading (u8_at bytes minimum.1)
  _ ← refuse_if (not (operations.0 == 1)) causes.LineParams
  is_stmt ← reading (u8_at bytes operations.1)
  base ← reading (u8_at bytes is_stmt.1)
  range ← reading (u8_at bytes base.1)
  _ ← refuse_if (range.0 == 0) causes.LineParams
  opcode_base ← reading (u8_at bytes range.1)
  _ ← refuse_if (opcode_base.0 == 0) causes.LineParams
  lengths ← lengths_at (opcode_base.0 - 1) bytes opcode_base.1
  Ok (
    record {
      minimum_length = minimum.0;
      line_base = signed_byte base.0;
      line_range = range.0;
      opcode_base = opcode_base.0;
      opcode_lengths = lengths.0;
    },
    lengths.1,
  )

pub record LineHeader : Type 0 where
  pub encoding : Encoding
  pub directories : List Entry
  pub files : List Entry
  -- the offset of the first instruction, and the end of the program (exclusive)
  pub first : ℕ
  pub past : ℕ

-- The header of the program at an offset. The fields from minimum_instruction_length to the last
-- file must be within the header. Bytes between them and the first instruction are not read.
unfoldable pub header_at : LineSections → ℕ → Result LineHeader Cause
header_at s place = do
  bounds ← bounds_at s.line place
  encoding ← encoding_at (take bounds.first s.line) bounds.fields
  directories ← table_at s bounds.format Directories (take bounds.first s.line) encoding.1
  files ← table_at s bounds.format (Files (length directories.0)) (take bounds.first s.line)
      directories.1
  Ok (record {
    encoding = encoding.0;
    directories = directories.0;
    files = files.0;
    first = bounds.first;
    past = bounds.past;
  })
