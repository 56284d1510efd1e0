-- The interface of the line tables of an object.
use Rattle.std.specs.Prelude.{◌≡◌, ◌+◌, ◌≤◌, false, ℕ, suc, List, [], ◌∷◌, length, map, position}
use Rattle.std.specs.Prelude.{slice_get, Bool, not, ◌&&◌, nat_le, nat_lt, Result, Ok, Option, Some}
use Rattle.std.specs.Prelude.{None, ◌==◌, if◌then◌else◌}
use Rattle.std.specs.Option.{option_map, option_map_or, option_and_then}
use Rattle.dwarf_bytes.specs.Bind.{◌>>=◌}
use Rattle.dwarf_bytes.specs.Refusals.{in_section}
use Rattle.dwarf_bytes.specs.declared.fault.LoadFault.{LoadFault}
use Rattle.dwarf_bytes.specs.declared.fault.Section.TheVariants as sections
use Rattle.dwarf_lines.specs.declared.row.Row.{Row}
use Rattle.dwarf_lines.specs.declared.row.ProgramNo.{ProgramNo}
use Rattle.dwarf_bytes.specs.declared.text.Text.{Text}
use Rattle.dwarf_lines.specs.declared.entries.Entry.{Entry}
use Rattle.dwarf_lines.specs.Sections.{LineSections}
use Rattle.dwarf_lines.specs.Programs.{Program, programs_of, rows_of}
use Rattle.dwarf_lines.specs.Paths.{path_parts}

-- the tables of a program without its rows: its offset, its directories and its files
pub record FileTables : Type 0 where
  pub offset : ℕ
  pub directories : List Entry
  pub files : List Entry

-- the line tables of an object: the rows in file order, and the directories and files
pub record Lines : Type 0 where
  pub rows : List Row
  pub programs : List FileTables

abbrev pub tables_of : Program → FileTables
tables_of program =
    record { offset = program.offset; directories = program.directories; files = program.files }

abbrev pub lines_of : List Program → Lines
lines_of programs = record { rows = rows_of programs; programs = map tables_of programs }

-- The line tables of the sections, or the first fault of their programs.
unfoldable pub lines_in : LineSections → Result Lines LoadFault
lines_in s = in_section sections.DebugLine (programs_of s) >>= λ programs. Ok (lines_of programs.0)

-- the index of the program that starts at an offset
abbrev pub program_at : Lines → ℕ → Option ProgramNo
program_at lines offset = option_map (λ n. record { 0 = n })
    (position (λ program. program.offset == offset) lines.programs)

-- the number of files of a program, or 0 if there is no such program
abbrev pub file_count : Lines → ProgramNo → ℕ
file_count lines number =
    option_map_or (λ program. length program.files) (slice_get lines.programs number.0) 0

-- the parts of the path of a program's file
abbrev pub path_of : Lines → ProgramNo → ℕ → Option (List Text)
path_of lines number file =
    option_and_then (λ program. path_parts program.directories program.files file)
    (slice_get lines.programs number.0)

-- A row covers the addresses from its own up to that of the next row (exclusive), unless it ends
-- its sequence. The next row is in the same sequence.
abbrev pub covers : ℕ → Row → Row → Bool
covers address row next = not row.«end» && nat_le row.address address && nat_lt address next.address

-- the index of the first row that covers an address
abbrev pub row_of : List Row → ℕ → Option ℕ
row_of [] address = None
row_of (row ∷ []) address = None
row_of (row ∷ next ∷ rows) address =
    if covers address row next then Some 0 else option_map suc (row_of (next ∷ rows) address)

-- Each row that does not end its sequence is followed by a row of the same program, at no lower
-- address.
abbrev pub HaveNext : List Row → Type 0
HaveNext rows = (i : ℕ) (row : Row) → slice_get rows i ≡ Some row → row.«end» ≡ false
    → (next : Row) × (slice_get rows (i + 1) ≡ Some next) × (next.program ≡ row.program)
    × (row.address ≤ next.address)

-- Each row that does not end its sequence has a path: its program, its file and the directory of
-- the file exist.
abbrev pub HavePaths : Lines → Type 0
HavePaths lines = (i : ℕ) (row : Row) → slice_get lines.rows i ≡ Some row → row.«end» ≡ false
    → (parts : List Text) × (path_of lines row.program row.file ≡ Some parts)
