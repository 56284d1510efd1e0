-- The line programs of a section (DWARF 5, 6.2.4 and 6.2.5): their rows and files, or the first
-- fault.
use Rattle.std.specs.Prelude.{ℕ, List, [], length, take, Result, Ok, nat_le, if◌then◌else◌}
use Rattle.std.specs.List.{flat_map}
use Rattle.dwarf_bytes.specs.Bind.{◌>>=◌}
use Rattle.dwarf_bytes.specs.Items.{At, Next, Item, End, items_from}
use Rattle.dwarf_bytes.specs.declared.fault.Cause.{Cause}
use Rattle.dwarf_lines.specs.declared.row.Row.{Row}
use Rattle.dwarf_lines.specs.declared.entries.Entry.{Entry}
use Rattle.dwarf_lines.specs.Matrix.{matrix_at}
use Rattle.dwarf_lines.specs.Sections.{LineSections}
use Rattle.dwarf_lines.specs.Headers.{header_at}

-- a line program: its offset, its tables, its rows, and its end (exclusive)
pub record Program : Type 0 where
  pub offset : ℕ
  pub directories : List Entry
  pub files : List Entry
  pub rows : List Row
  pub past : ℕ

-- the program at an offset, with its number in the section, or its first fault
unfoldable pub program_at_place : LineSections → ℕ → ℕ → Result Program Cause
program_at_place s number place = do
  header ← header_at s place
  rows ← matrix_at header.encoding (record {
    program = record { 0 = number };
    files = length
        header.files;
  }) (take header.past s.line) header.first
  Ok (record {
    offset = place;
    directories = header.directories;
    files = header.files;
    rows = rows;
    past = header.past;
  })

-- the program at an offset after these programs, or the end of the section
abbrev pub next_program : LineSections → List Program → ℕ → Result (Next Program) Cause
next_program s before place =
    if nat_le (length s.line) place then Ok (End place)
    else program_at_place s (length before) place >>= λ program. Ok (Item program program.past)

-- The programs of the section, or the first fault with the offset of its program. Each program is
-- fully validated before the next one is read.
abbrev pub programs_of : LineSections → Result (List Program × ℕ) At
programs_of s = items_from (length s.line) (next_program s) [] 0

-- the rows of all programs
abbrev pub rows_of : List Program → List Row
rows_of programs = flat_map (λ program. program.rows) programs
