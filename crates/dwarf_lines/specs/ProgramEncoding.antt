-- The encoding of a whole line program (DWARF 5, 6.2.4 and 6.2.5), and its rows.
use Rattle.std.specs.Prelude.{◌≡◌, ℕ, List, [], length, take, drop, false, Ok}
use Rattle.dwarf_bytes.specs.Numbers.{IsEncodedAt}
use Rattle.dwarf_lines.specs.declared.instruction.Instruction.{Instruction}
use Rattle.dwarf_lines.specs.Sections.{LineSections}
use Rattle.dwarf_lines.specs.Headers.{LineHeader}
use Rattle.dwarf_lines.specs.HeaderEncodings.{EncodesHeader}
use Rattle.dwarf_lines.specs.Encodings.{AreEncoded}
use Rattle.dwarf_lines.specs.Matrix.{is_open, latest_first}
use Rattle.dwarf_lines.specs.Machine.{at_start, rows_by}
use Rattle.dwarf_lines.specs.Programs.{Program}

-- The program with this number is at the offset: a header, and encoded instructions up to the
-- program's end. Its rows are the ones that the machine appends, and its last sequence has ended.
pub record IsProgram (s : LineSections) (number place : ℕ) (program : Program) : Type 0 where
  pub header : LineHeader
  pub instructions : List Instruction
  pub header_is : IsEncodedAt (EncodesHeader s place) s.line place header header.past
  pub instructions_are : AreEncoded header.encoding (drop header.first (take header.past s.line))
      instructions
  pub rows_are : rows_by header.encoding (record
      { program = record { 0 = number }; files = length header.files }) at_start
      instructions ≡ Ok program.rows
  pub ended : is_open (latest_first [] instructions) ≡ false
  pub program_is : program ≡ record {
    offset = place;
    directories = header.directories;
    files = header.files;
    rows = program.rows;
    past = header.past;
  }
