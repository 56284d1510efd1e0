-- The path of a file (DWARF 5, 6.2.4: directories and file_names).
use Rattle.std.specs.Prelude.{ℕ, List, [], ◌∷◌, take, drop, map, filter, slice_get, ◌||◌, Option}
use Rattle.std.specs.Prelude.{nat_lt, ◌==◌, if◌then◌else◌}
use Rattle.std.specs.List.{join_with_byte}
use Rattle.std.specs.Option.{option_map, option_and_then}
use Rattle.dwarf_bytes.specs.declared.text.Text.{Text}
use Rattle.dwarf_lines.specs.declared.entries.PathText.{PathText}
use Rattle.dwarf_lines.specs.declared.entries.Entry.{Entry}
use Rattle.dwarf_lines.specs.Sections.{LineSections, section_bytes}

-- The strings of a path, in order. A relative file is preceded by its directory. A relative
-- directory other than directory 0 is preceded by directory 0.
abbrev pub texts_of : PathText → ℕ → PathText → PathText → List PathText
texts_of current number directory file =
    if file.absolute then file ∷ []
    else if (number == 0) || directory.absolute then directory ∷ file ∷ []
    else current ∷ directory ∷ file ∷ []

-- An empty part is omitted, with its slash.
abbrev pub nonempty_parts : List PathText → List Text
nonempty_parts texts = filter (λ part. nat_lt 0 part.span.len) (map (λ text. text.part) texts)

-- The parts of a file's path, to be joined by slashes. Directories and files are numbered from 0.
abbrev pub path_parts : List Entry → List Entry → ℕ → Option (List Text)
path_parts directories files number =
    option_and_then (λ file. option_and_then (λ directory. option_map (λ current.
    nonempty_parts (texts_of current.path file.directory directory.path file.path))
    (slice_get directories 0)) (slice_get directories file.directory)) (slice_get files number)

-- the bytes of a part, and of a path
abbrev pub part_bytes : LineSections → Text → List ℕ
part_bytes s part = take part.span.len (drop part.span.place (section_bytes s part.section))

abbrev pub path_bytes : LineSections → List Text → List ℕ
path_bytes s parts = join_with_byte 47 (map (part_bytes s) parts)

-- a part, or nothing if it is empty
abbrev pub part_if_any : Text → List Text
part_if_any part = filter (λ part. nat_lt 0 part.span.len) (part ∷ [])
