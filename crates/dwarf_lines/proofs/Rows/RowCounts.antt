-- The line programs of a section have at most as many rows as the section has bytes.
use Rattle.std.proofs.Common.{◌≡◌, ℕ, zero, suc, ◌+◌, ◌-◌, ◌<◌, ◌≤◌, List, [], ◌∷◌, ◌++◌, Bool}
use Rattle.std.proofs.Common.{true, false, length, take, Result, Ok, Err, ap, arith, length-append}
use Rattle.std.proofs.Common.{None, length-take, sym, subst, if◌then◌else◌}
use Rattle.std.specs.Prelude.{nat_lt, nat_le}
use Rattle.dwarf_bytes.specs.Bind.{◌>>=◌}
use Rattle.dwarf_bytes.specs.declared.fault.Cause.{Cause}
use Rattle.dwarf_bytes.specs.Items.{Next, Item, End, Lists}
use Rattle.dwarf_bytes.proofs.Numbers.Advance.{after-bind, chosen}
use Rattle.dwarf_bytes.proofs.Items.ItemLaws.{Lists-within}
use Rattle.dwarf_lines.specs.declared.row.Row.{Row}
use Rattle.dwarf_lines.specs.declared.row.Origin.{Origin}
use Rattle.dwarf_lines.specs.declared.instruction.Instruction.{Instruction}
use Rattle.dwarf_lines.specs.declared.instruction.Instruction.TheVariants.{Copy, AdvancePc}
use Rattle.dwarf_lines.specs.declared.instruction.Instruction.TheVariants.{AdvanceLine, SetFile}
use Rattle.dwarf_lines.specs.declared.instruction.Instruction.TheVariants.{ConstAddPc}
use Rattle.dwarf_lines.specs.declared.instruction.Instruction.TheVariants.{FixedAdvancePc}
use Rattle.dwarf_lines.specs.declared.instruction.Instruction.TheVariants.{SetAddress, EndSequence}
use Rattle.dwarf_lines.specs.declared.instruction.Instruction.TheVariants.{Special, Skipped}
use Rattle.dwarf_lines.specs.Instructions.{Encoding, Reading, instruction_at, reading_from}
use Rattle.dwarf_lines.specs.Instructions.{reading_of, read_on, no_more}
use Rattle.dwarf_lines.specs.Matrix.{made, made_live, rows_from, matrix_at, line_row, end_row}
use Rattle.dwarf_lines.specs.Matrix.{address_after, line_after, file_after, row_before}
use Rattle.dwarf_lines.specs.Matrix.{starts_at_tombstone, ending, is_open, latest_first}
use Rattle.dwarf_lines.specs.Sections.{LineSections}
use Rattle.dwarf_lines.specs.Headers.{LineHeader, header_at}
use Rattle.dwarf_lines.specs.Programs.{Program, program_at_place, next_program, rows_of}
use Rattle.dwarf_lines.specs.Lines.{Lines, lines_in}
use Rattle.dwarf_lines.proofs.Headers.BoundsLaws.{ok-is, header_at-past, header_at-first}
use Rattle.dwarf_lines.proofs.SectionPrograms.ProgramTurns.{programs-advance, item_or}
use Rattle.dwarf_lines.proofs.Rows.SequenceChains.{found_at, lines_in-ok}

-- ---- an instruction makes at most one row

abbrev AtMostOne : List Row → Type 0
AtMostOne rows = length rows ≤ 1

no_row : (rows : List Row) → (let f : List Row → Result (List Row) Cause = λ z. Ok z in f []
    ≡ f rows)
    → AtMostOne rows
no_row rows h = subst AtMostOne (ok-is {E = Cause} [] rows h) (omega arith)

one-row : (read : Result Row Cause) (rows : List Row)
    → (read >>= λ row. Ok (row ∷ [])) ≡ Ok rows → AtMostOne rows
one-row read rows h =
    after-bind read _ rows h (AtMostOne rows) (λ row row_is h1.
    subst AtMostOne (ok-is {E = Cause} (row ∷ []) rows h1) (omega arith))

live-few : (e : Encoding) (o : Origin) (before : List Instruction) (i : Instruction)
    (rows : List Row) → made_live e o before i ≡ Ok rows → AtMostOne rows
live-few e o before Copy rows h = one-row _ rows h
live-few e o before (Special adjusted) rows h = one-row _ rows h
live-few e o before EndSequence rows h = one-row _ rows h
live-few e o before (AdvancePc n) rows h = no_row rows h
live-few e o before (AdvanceLine n) rows h = no_row rows h
live-few e o before (SetFile n) rows h = no_row rows h
live-few e o before ConstAddPc rows h = no_row rows h
live-few e o before (FixedAdvancePc n) rows h = no_row rows h
live-few e o before (SetAddress n) rows h = no_row rows h
live-few e o before Skipped rows h = no_row rows h

made-few : (e : Encoding) (o : Origin) (before : List Instruction) (i : Instruction)
    (rows : List Row) → made e o before i ≡ Ok rows → AtMostOne rows
unfolding made
made-few e o before i rows h =
    chosen (starts_at_tombstone before) (Ok []) (made_live e o before i) (Ok rows) h
    (AtMostOne rows)
    (λ _ at_tombstone. no_row rows at_tombstone) (λ _ live. live-few e o before i rows live)

rows-few : (e : Encoding) (o : Origin) (before instructions : List Instruction) (rows : List Row)
    → rows_from e o before instructions ≡ Ok rows → length rows ≤ length instructions
unfolding rows_from
rows-few e o before [] rows h =
    subst (λ (r : List Row). length r ≤ 0) (ok-is {E = Cause} [] rows h) (omega arith)
rows-few e o before (i ∷ rest) rows h =
    let P : Type 0 = length rows ≤ length (i ∷ rest) in
    after-bind (made e o before i) _ rows h P (λ row row_is h1.
    after-bind (rows_from e o (i ∷ before) rest) _ rows h1 P (λ more more_is h2.
    let here = made-few e o before i row row_is in
    let others = rows-few e o (i ∷ before) rest more more_is in
    let whole = ap length (ok-is {E = Cause} (row ++ more) rows h2) in
    omega (arith, here, others, whole, length-append row more)))

-- ---- an instruction has at least one byte

read_on-few : (read : Result (Instruction × ℕ) Cause) (rest : ℕ → Reading) (steps : ℕ)
    → ((place : ℕ) → length (rest place).instructions ≤ steps)
    → length (read_on read rest).instructions ≤ suc steps
read_on-few (Ok i) rest steps few = let others = few i.1 in omega (arith, others)
read_on-few (Err cause) rest steps few = omega arith

either-few : (test : Bool) (x y : Reading) (steps : ℕ) → length x.instructions ≤ steps
    → length y.instructions ≤ steps → length (if test then x else y).instructions ≤ steps
either-few true x y steps one other = one
either-few false x y steps one other = other

reading-few : (steps : ℕ) (e : Encoding) (bytes : List ℕ) (place : ℕ)
    → length (reading_from steps e bytes place).instructions ≤ steps
unfolding reading_from
reading-few zero e bytes place = omega arith
reading-few (suc steps) e bytes place =
    either-few (nat_lt place (length bytes))
    (read_on (instruction_at e bytes place) (reading_from steps e bytes)) (no_more None) (suc steps)
    (read_on-few (instruction_at e bytes place) (reading_from steps e bytes) steps
    (λ after. reading-few steps e bytes after)) (omega arith)

matrix-few : (e : Encoding) (o : Origin) (bytes : List ℕ) (place : ℕ) (rows : List Row)
    → matrix_at e o bytes place ≡ Ok rows → length rows ≤ length bytes - place
matrix-few e o bytes place rows h =
    let P : Type 0 = length rows ≤ length bytes - place in
    after-bind (rows_from e o [] (reading_of e bytes place).instructions) _ rows h P
    (λ found found_is h1.
    after-bind (ending (reading_of e bytes place).fault
    (is_open (latest_first [] (reading_of e bytes place).instructions))) _ rows h1 P
    (λ n ended h2.
    let few = rows-few e o [] (reading_of e bytes place).instructions found found_is in
    let steps = reading-few (length bytes - place) e bytes place in
    let same = ap length (ok-is {E = Cause} found rows h2) in
    omega (arith, few, steps, same)))

-- ---- programs

program-few : (s : LineSections) (number place : ℕ) (program : Program)
    → program_at_place s number place ≡ Ok program → length program.rows + place ≤ program.past
unfolding program_at_place
program-few s number place program h =
    let P : Type 0 = length program.rows + place ≤ program.past in
    after-bind (header_at s place) _ program h P (λ header header_is h1.
    after-bind (matrix_at header.encoding
    (record { program = record { 0 = number }; files = length header.files })
    (take header.past s.line) header.first) _ program h1 P (λ rows rows_is h2.
    let same = ok-is {E = Cause} (record {
      offset = place;
      directories = header.directories;
      files = header.files;
      rows = rows;
      past = header.past;
    }) program h2 in
    let rows_same : length rows ≡ length program.rows = ap (λ (p : Program). length p.rows) same in
    let past_same : header.past ≡ program.past = ap (λ (p : Program). p.past) same in
    let few = matrix-few header.encoding
    (record { program = record { 0 = number }; files = length header.files })
    (take header.past s.line) header.first rows rows_is in
    let cut = length-take header.past s.line in
    let first = header_at-first s place header header_is in
    let past = header_at-past s place header header_is in
    omega (arith, rows_same, past_same, few, cut, first, past.0, past.1)))

abbrev after_of : Next Program → ℕ
after_of (Item program after) = after
after_of (End after) = after

next-past : (s : LineSections) (before : List Program) (place : ℕ) (program : Program) (after : ℕ)
    → next_program s before place ≡ Ok (Item program after) → program.past ≡ after
next-past s before place x after h =
    let P : Type 0 = x.past ≡ after in
    chosen (nat_le (length s.line) place) (Ok (End place))
    (program_at_place s (length before) place >>= λ program. Ok (Item program program.past))
    (Ok (Item x after)) h P (λ _ e. cc) (λ _ e.
    after-bind (program_at_place s (length before) place) _ (Item x after) e P
    (λ program program_is e1.
    let same = ok-is {E = Cause} (Item program program.past) (Item x after) e1 in
    let item : program ≡ x = ap (item_or x) same in
    let last : program.past ≡ after = ap after_of same in
    subst (λ (p : Program). p.past ≡ after) item last))

list-few : (s : LineSections) (before : List Program) (place : ℕ) (programs : List Program)
    (after : ℕ) → Lists (next_program s) before place programs after → place ≤ length s.line
    → length (rows_of programs) + place ≤ length s.line
list-few s before place [] after h within = omega (arith, within)
list-few s before place (program ∷ programs) after h within =
    let moves = programs-advance s before place program h.0 h.1 in
    let rest = list-few s (before ++ program ∷ []) h.0 programs after h.2 moves.1 in
    let here = program-few s (length before) place program
    (found_at s before place program h.0 h.1) in
    let past = next-past s before place program h.0 h.1 in
    omega (arith, rest, here, past, length-append program.rows (rows_of programs))

pub rows-take-bytes : (s : LineSections) (lines : Lines) → lines_in s ≡ Ok lines
    → length lines.rows ≤ length s.line
rows-take-bytes s lines h =
    let read = lines_in-ok s lines h in
    let few = list-few s [] 0 read.0 read.1
    (Lists-within _ (next_program s) [] 0 read.0 read.1 read.2) (omega arith) in
    rw read.3 (omega (arith, few))
