-- A whole program: its header, its instructions, its rows.
use Rattle.std.proofs.Common.{◌≡◌, ℕ, ◌+◌, ◌<◌, ◌≤◌, List, [], ◌∷◌, ◌++◌, length, take, true, false}
use Rattle.std.proofs.Common.{Bool, Result, Ok, Option, Some, None, refl, sym, ap, ◌∙◌, arith}
use Rattle.std.proofs.lemmas.List.{length-append, length-take}
use Rattle.dwarf_bytes.specs.declared.fault.Cause.{Cause}
use Rattle.dwarf_bytes.proofs.Numbers.Advance.{after-bind}
use Rattle.dwarf_lines.specs.declared.row.Row.{Row}
use Rattle.dwarf_lines.specs.declared.row.Origin.{Origin}
use Rattle.dwarf_lines.specs.declared.instruction.Instruction.{Instruction}
use Rattle.dwarf_lines.specs.Sections.{LineSections}
use Rattle.dwarf_lines.specs.Instructions.{Encoding, Reading, reading_of}
use Rattle.dwarf_lines.specs.Headers.{LineHeader, header_at}
use Rattle.dwarf_lines.specs.HeaderEncodings.{EncodesHeader}
use Rattle.dwarf_lines.specs.Matrix.{rows_from, matrix_after, matrix_at, ending, is_open}
use Rattle.dwarf_lines.specs.Matrix.{latest_first}
use Rattle.dwarf_lines.specs.Programs.{Program, program_at_place}
use Rattle.dwarf_lines.specs.ProgramEncoding.{IsProgram}
use Rattle.dwarf_lines.proofs.Headers.BoundsLaws.{ok-is, header_at-past}
use Rattle.dwarf_lines.proofs.Headers.HeadersEncoded.{header_encoded, header_again}
use Rattle.dwarf_lines.proofs.Instructions.ReadingLaws.{reading_is_encoded, spelled_is_read}
use Rattle.dwarf_lines.proofs.Machine.MachineLaws.{rows-by-machine}

-- the instructions are within the program, and opcode_base is not 0
pub first-inside : (s : LineSections) (place : ℕ) (header : LineHeader) (bytes : List ℕ)
    → EncodesHeader s place bytes header
    → (header.first ≤ header.past) × (0 < header.encoding.opcode_base)
first-inside s place header bytes h =
    let f = h.fields_are in
    let all : length bytes ≡ length h.unit_length + length h.unit =
    ap length h.whole ∙ length-append h.unit_length h.unit in
    let unit : length h.unit ≡ length (5 ∷ 0 ∷ 8 ∷ 0 ∷ h.header_length) + length
    (h.fields ++ h.instructions) = ap length h.unit_is
    ∙ length-append (5 ∷ 0 ∷ 8 ∷ 0 ∷ h.header_length) (h.fields ++ h.instructions) in
    let four : length (5 ∷ 0 ∷ 8 ∷ 0 ∷ h.header_length) ≡ 4 + length h.header_length =
    length-append (5 ∷ 0 ∷ 8 ∷ 0 ∷ []) h.header_length in
    let rest = length-append h.fields h.instructions in
    let first = f.first_is in
    let past = h.past_is in
    let known = f.encoding_is.lengths in
    (omega (arith, all, unit, four, rest, first, past), omega (arith, known))

ending-valid : (fault : Option Cause) (has_row : Bool) (n : ℕ) → ending fault has_row ≡ Ok n
    → (fault ≡ None) × (has_row ≡ false)
ending-valid (Some cause) has_row n h = cc
ending-valid None true n h = cc
ending-valid None false n h = (refl, refl)

pub matrix-valid : (e : Encoding) (o : Origin) (read : Reading) (is : List Instruction)
    (rows : List Row)
    → read ≡ record { instructions = is; fault = None } → rows_from e o [] is ≡ Ok rows
    → is_open (latest_first [] is) ≡ false
    → matrix_after e o [] read ≡ Ok rows
matrix-valid e o read is rows read_is rows_is closed = rw (read_is, rows_is, closed) refl

matrix-is : (e : Encoding) (o : Origin) (read : Reading) (rows : List Row)
    → matrix_after e o [] read ≡ Ok rows
    → (read ≡ record { instructions = read.instructions; fault = None })
    × (rows_from e o [] read.instructions ≡ Ok rows)
    × (is_open (latest_first [] read.instructions) ≡ false)
matrix-is e o read rows h =
    let P : Type 0 = (read ≡ record { instructions = read.instructions; fault = None })
    × (rows_from e o [] read.instructions ≡ Ok rows)
    × (is_open (latest_first [] read.instructions) ≡ false) in
    after-bind (rows_from e o [] read.instructions) _ rows h P (λ made made_is h1.
    after-bind (ending read.fault (is_open (latest_first [] read.instructions))) _ rows h1 P
    (λ n ended h2.
    let same : made ≡ rows = ok-is {E = Cause} made rows h2 in
    let valid = ending-valid read.fault (is_open (latest_first [] read.instructions)) n ended in (
      ap (λ (f : Option Cause). record { instructions = read.instructions; fault = f }) valid.0,
      made_is ∙ ap (λ (r : List Row). (let ok : Result (List Row) Cause = Ok r in ok)) same,
      valid.1,
    )))

pub program-encoded : (s : LineSections) (number place : ℕ) (program : Program)
    → program_at_place s number place ≡ Ok program
    → IsProgram s number place program
unfolding program_at_place
program-encoded s number place program h =
    let P : Type 0 = IsProgram s number place program in
    after-bind (header_at s place) _ program h P (λ header header_is h1.
    let o : Origin = record { program = record { 0 = number }; files = length header.files } in
    after-bind (matrix_at header.encoding o (take header.past s.line) header.first) _ program h1 P
    (λ rows rows_is h2.
    let same : record {
      offset = place;
      directories = header.directories;
      files = header.files;
      rows = rows;
      past = header.past;
    } ≡ program
    = ok-is {E = Cause} (record {
      offset = place;
      directories = header.directories;
      files =
          header.files;
      rows = rows;
      past = header.past;
    }) program h2 in
    let read : Reading = reading_of header.encoding (take header.past s.line) header.first in
    let found = matrix-is header.encoding o read rows rows_is in
    let is_encoded = header_encoded s place header header_is in
    let inside = first-inside s place header is_encoded.front is_encoded.encoded in
    let places = header_at-past s place header header_is in
    let size = length-take header.past s.line in
    let made : rows ≡ program.rows = ap (λ (p : Program). p.rows) same in
    record {
      header = header;
      instructions = read.instructions;
      header_is = is_encoded;
      instructions_are = reading_is_encoded header.encoding (take header.past s.line) header.first
          read.instructions (omega (arith, inside.0, places.1, size)) found.0;
      rows_are = sym (rows-by-machine header.encoding o read.instructions) ∙ found.1
          ∙ ap (λ (r : List Row). (let ok : Result (List Row) Cause = Ok r in ok)) made;
      ended = found.2;
      program_is = sym same ∙ ap (λ (r : List Row). record {
        offset = place;
        directories = header.directories;
        files = header.files;
        rows = r;
        past =
            header.past;
      }) made;
    }))

pub program-again : (s : LineSections) (number place : ℕ) (program : Program)
    → IsProgram s number place program
    → program_at_place s number place ≡ Ok program
unfolding program_at_place
program-again s number place program p =
    let header = p.header in
    let o : Origin = record { program = record { 0 = number }; files = length header.files } in
    let header_is = header_again s place header p.header_is in
    let inside = first-inside s place header p.header_is.front p.header_is.encoded in
    let places = header_at-past s place header header_is in
    let size = length-take header.past s.line in
    let read = spelled_is_read header.encoding (take header.past s.line) header.first p.instructions
    inside.1 (omega (arith, inside.0, places.1, size)) p.instructions_are in
    let matrix : matrix_at header.encoding o (take header.past s.line) header.first
    ≡ Ok program.rows
    = matrix-valid header.encoding o _ p.instructions program.rows read
    (rows-by-machine header.encoding o p.instructions ∙ p.rows_are) p.ended in
    rw (header_is, matrix) (ap (λ (q : Program). (let ok : Result Program Cause = Ok q in ok))
    (sym p.program_is))
