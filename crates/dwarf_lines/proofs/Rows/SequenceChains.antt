-- The rows of sequences, each with its next one.
use Rattle.std.proofs.Common.{◌≡◌, ℕ, zero, suc, ◌≤◌, List, [], ◌∷◌, ◌++◌, Bool, true, false, not}
use Rattle.std.proofs.Common.{length, take, Result, Ok, Err, Some, None, refl, sym, ap, ◌∙◌, subst}
use Rattle.std.proofs.Common.{add-one}
use Rattle.std.specs.Prelude.{Option, nat_le, slice_get}
use Rattle.std.proofs.lemmas.Bool.{false≢true}
use Rattle.dwarf_bytes.specs.declared.fault.Cause.{Cause}
use Rattle.dwarf_bytes.specs.declared.fault.Section.TheVariants as sections
use Rattle.dwarf_bytes.specs.Bind.{◌>>=◌}
use Rattle.dwarf_bytes.specs.Items.{Item, End, Lists}
use Rattle.dwarf_bytes.specs.Refusals.{in_section}
use Rattle.dwarf_bytes.proofs.Numbers.Advance.{after-bind, chosen}
use Rattle.dwarf_bytes.proofs.Items.ItemLaws.{Lists-within}
use Rattle.dwarf_lines.specs.declared.row.Row.{Row}
use Rattle.dwarf_lines.specs.declared.row.ProgramNo.{ProgramNo}
use Rattle.dwarf_lines.specs.declared.row.Origin.{Origin}
use Rattle.dwarf_lines.specs.declared.instruction.Instruction.{Instruction}
use Rattle.dwarf_lines.specs.declared.instruction.Instruction.TheVariants.{EndSequence}
use Rattle.dwarf_lines.specs.Instructions.{Encoding, reading_of}
use Rattle.dwarf_lines.specs.Matrix.{is_open, starts_at_tombstone, row_before, made, rows_from}
use Rattle.dwarf_lines.specs.Matrix.{ending, latest_first, matrix_at}
use Rattle.dwarf_lines.specs.Sections.{LineSections}
use Rattle.dwarf_lines.specs.Headers.{header_at}
use Rattle.dwarf_lines.specs.Programs.{Program, program_at_place, next_program, programs_of}
use Rattle.dwarf_lines.specs.Programs.{rows_of}
use Rattle.dwarf_lines.specs.Lines.{Lines, lines_of, lines_in, HaveNext}
use Rattle.dwarf_lines.proofs.Headers.BoundsLaws.{ok-is}
use Rattle.dwarf_lines.proofs.Machine.Steps.{row-stays, tombstone-here}
use Rattle.dwarf_lines.proofs.Machine.StepRows.{made-nothing}
use Rattle.dwarf_lines.proofs.SectionPrograms.ProgramTurns.{item_or}
use Rattle.dwarf_lines.proofs.Rows.Sequences.{IsChain, Kind, quiet, makes, ends, kind_of, keeps_row}
use Rattle.dwarf_lines.proofs.Rows.Sequences.{after-end, at-first, shut-unchanged, tombstone-kept}
use Rattle.dwarf_lines.proofs.Rows.Sequences.{stored-stays}
use Rattle.dwarf_lines.proofs.Rows.Sequences.{any-address, none-more, line-more, end-more}

-- the row of one instruction precedes the rows of the others
one_more : (e : Encoding) (o : Origin) (before : List Instruction) (i : Instruction)
    (row rest : List Row) → made e o before i ≡ Ok row
    → Kind i
    → IsChain o.program (keeps_row (i ∷ before)) (row_before e (i ∷ before)) rest
    → IsChain o.program (keeps_row before) (row_before e before) (row ++ rest)
one_more e o before i row rest is (quiet e_is m_is) chain =
    let none : [] ≡ row = ok-is {E = Cause} [] row
    (sym (made-nothing e o i before e_is m_is) ∙ is) in
    let here : IsChain o.program (keeps_row before) (row_before e before) rest =
    subst (λ (b : Bool). IsChain o.program b (row_before e before) rest)
    (stored-stays i before e_is m_is)
    (subst (λ (n : ℕ). IsChain o.program (keeps_row (i ∷ before)) n rest)
    (row-stays e i before e_is m_is) chain) in
    subst (λ (r : List Row). IsChain o.program (keeps_row before) (row_before e before) (r ++ rest))
    none here
one_more e o before i row rest is (makes e_is m_is) chain = by (starts_at_tombstone before) refl
  where
    by : (b : Bool) → starts_at_tombstone before ≡ b
        → IsChain o.program (keeps_row before) (row_before e before) (row ++ rest)
    by true d = none-more e o before i row rest is d
        (tombstone-kept (i ∷ before) (tombstone-here i before e_is m_is ∙ d)) chain
    by false d = line-more e o before i row rest is d e_is m_is chain
one_more e o before i row rest is (ends i_is) chain = by (starts_at_tombstone before) refl
  where
    made_is : made e o before EndSequence ≡ Ok row
    made_is = subst (λ (j : Instruction). made e o before j ≡ Ok row) i_is is

    closed : IsChain o.program (keeps_row (EndSequence ∷ before))
        (row_before e (EndSequence ∷ before)) rest
    closed = subst (λ (j : Instruction). IsChain o.program (keeps_row (j ∷ before))
        (row_before e (j ∷ before)) rest) i_is chain

    by : (b : Bool) → starts_at_tombstone before ≡ b
        → IsChain o.program (keeps_row before) (row_before e before) (row ++ rest)
    by true d = none-more e o before EndSequence row rest made_is d (after-end e before).0 closed
    by false d = end-more e o before row rest made_is d closed

-- the rows of instructions after the given ones, if no sequence is left open
rows-chain : (e : Encoding) (o : Origin) (before rest : List Instruction) (rows : List Row)
    → rows_from e o before rest ≡ Ok rows
    → is_open (latest_first before rest) ≡ false
    → IsChain o.program (keeps_row before) (row_before e before) rows
unfolding rows_from
rows-chain e o before [] rows is shut = subst
    (λ (r : List Row). IsChain o.program (keeps_row before) (row_before e before) r)
    (ok-is {E = Cause} [] rows is) (shut-unchanged before shut)
rows-chain e o before (i ∷ rest) rows is shut =
    after-bind (made e o before i) _ rows is
    (IsChain o.program (keeps_row before) (row_before e before) rows) (λ row row_is h1.
    after-bind (rows_from e o (i ∷ before) rest) _ rows h1
    (IsChain o.program (keeps_row before) (row_before e before) rows) (λ others others_is h2.
    subst (λ (r : List Row). IsChain o.program (keeps_row before) (row_before e before) r)
    (ok-is {E = Cause} (row ++ others) rows h2)
    (one_more e o before i row others row_is (kind_of i)
    (rows-chain e o (i ∷ before) rest others others_is shut))))

ending-shut : (fault : Option Cause) (has_row : Bool) (n : ℕ) → ending fault has_row ≡ Ok n
    → has_row ≡ false
ending-shut (Some cause) has_row n h = cc
ending-shut None true n h = cc
ending-shut None false n h = refl

-- the rows of a matrix
pub matrix-chain : (e : Encoding) (o : Origin) (bytes : List ℕ) (place : ℕ) (rows : List Row)
    → matrix_at e o bytes place ≡ Ok rows
    → IsChain o.program false 0 rows
matrix-chain e o bytes place rows is =
    let P : Type 0 = IsChain o.program false 0 rows in
    after-bind (rows_from e o [] (reading_of e bytes place).instructions) _ rows is P
    (λ found found_is h1.
    after-bind (ending (reading_of e bytes place).fault
    (is_open (latest_first [] (reading_of e bytes place).instructions))) _ rows h1 P
    (λ n ended h2.
    let chain = rows-chain e o [] (reading_of e bytes place).instructions found found_is
    (ending-shut (reading_of e bytes place).fault
    (is_open (latest_first [] (reading_of e bytes place).instructions)) n ended) in
    let opened : IsChain o.program false (row_before e []) found =
    subst (λ (b : Bool). IsChain o.program b (row_before e []) found) (at-first e) chain in
    subst (λ (r : List Row). IsChain o.program false 0 r) (ok-is {E = Cause} found rows h2)
    (any-address o.program false (row_before e []) 0 found refl opened)))

-- the rows of a program
pub program-chain : (s : LineSections) (number place : ℕ) (program : Program)
    → program_at_place s number place ≡ Ok program
    → IsChain (record { 0 = number }) false 0 program.rows
unfolding program_at_place
program-chain s number place program h =
    let P : Type 0 = IsChain (record { 0 = number }) false 0 program.rows in
    after-bind (header_at s place) _ program h P (λ header header_is h1.
    after-bind (matrix_at header.encoding
    (record { program = record { 0 = number }; files = length header.files })
    (take header.past s.line) header.first) _ program h1 P (λ rows rows_is h2.
    let same : rows ≡ program.rows = ap (λ (p : Program). p.rows)
    (ok-is {E = Cause} (record {
      offset = place;
      directories = header.directories;
      files =
          header.files;
      rows = rows;
      past = header.past;
    }) program h2) in
    subst (λ (r : List Row). IsChain (record { 0 = number }) false 0 r) same
    (matrix-chain header.encoding (record
    { program = record { 0 = number }; files = length header.files }) (take header.past s.line)
    header.first rows rows_is)))

-- a row and the rows after it
abbrev pub Continues : Row → List Row → Type 0
Continues row [] = row.«end» ≡ true
Continues row (next ∷ rows) = row.«end» ≡ false → (next.program ≡ row.program)
    × (row.address ≤ next.address)

abbrev pub AllContinue : List Row → Type 0
AllContinue [] = Unit {0}
AllContinue (row ∷ rows) = Continues row rows × AllContinue rows

ended : (row : Row) (rest : List Row) → row.«end» ≡ true → Continues row rest
ended row [] h = h
ended row (next ∷ rest) h = λ e. absurd (false≢true (sym e ∙ h))

not_false : (b : Bool) → not b ≡ false → b ≡ true
not_false true h = refl
not_false false h = cc

chain-continues : (program : ProgramNo) (has_row : Bool) (previous : ℕ) (rows rest : List Row)
    → IsChain program has_row previous rows
    → AllContinue rest → AllContinue (rows ++ rest)
chain-continues program has_row previous [] rest chain further = further
chain-continues program has_row previous (row ∷ []) rest chain further =
    (ended row rest (not_false row.«end» chain.2), further)
chain-continues program has_row previous (row ∷ next ∷ rows) rest chain further = (
  λ e. (chain.2.0 ∙ sym chain.0, chain.2.1 (ap not e)),
  chain-continues program (not row.«end»)
      row.address (next ∷ rows) rest chain.2 further,
)

pub found_at : (s : LineSections) (before : List Program) (place : ℕ) (program : Program)
    (after : ℕ)
    → next_program s before place ≡ Ok (Item program after)
    → program_at_place s (length before) place ≡ Ok program
found_at s before place x after h =
    let P : Type 0 = program_at_place s (length before) place ≡ Ok x in
    chosen (nat_le (length s.line) place) (Ok (End place))
    (program_at_place s (length before) place >>= λ program. Ok (Item program program.past))
    (Ok (Item x after)) h P (λ _ e. cc) (λ _ e.
    after-bind (program_at_place s (length before) place) _ (Item x after) e P
    (λ program program_is e1.
    let same : program ≡ x = ap (item_or x)
    (ok-is {E = Cause} (Item program program.past) (Item x after) e1) in
    subst (λ (p : Program). program_at_place s (length before) place ≡ Ok p) same program_is))

list-continues : (s : LineSections) (before : List Program) (place : ℕ) (programs : List Program)
    (after : ℕ)
    → Lists (next_program s) before place programs after → AllContinue (rows_of programs)
list-continues s before place [] after h = tt
list-continues s before place (program ∷ programs) after h =
    chain-continues (record { 0 = length before }) false 0 program.rows (rows_of programs)
    (program-chain s (length before) place program (found_at s before place program h.0 h.1))
    (list-continues s (before ++ program ∷ []) h.0 programs after h.2)

-- the programs from which the line tables are made
pub lines_in-ok : (s : LineSections) (lines : Lines) → lines_in s ≡ Ok lines
    → (programs : List Program) × (after : ℕ) × (programs_of s ≡ Ok (programs, after))
    × (lines ≡ lines_of programs)
unfolding lines_in
lines_in-ok s lines h = by_read (programs_of s) refl h
  where
    by_read : (read : Result (List Program × ℕ) (Cause × ℕ)) → programs_of s ≡ read
        → (in_section sections.DebugLine read >>= λ programs. Ok (lines_of programs.0)) ≡ Ok lines
        → (programs : List Program) × (after : ℕ) × (programs_of s ≡ Ok (programs, after))
        × (lines ≡ lines_of programs)
    by_read (Ok read) is h = (read.0, read.1, is, cc)
    by_read (Err fault) is h = cc

pub some-is : {X : Type 0} (x y : X) → (let f : X → Option X = λ z. Some z in f x ≡ f y) → x ≡ y
some-is x y h = cc

have-next : (rows : List Row) → AllContinue rows → HaveNext rows
have-next [] all i row is e = cc
have-next (first ∷ []) all zero row is e =
    absurd (false≢true (sym e ∙ sym (ap (λ (r : Row). r.«end») (some-is first row is)) ∙ all.0))
have-next (first ∷ []) all (suc i) row is e = cc
have-next (first ∷ next ∷ rows) all zero row is e =
    let same = some-is first row is in
    subst (λ (r : Row). (n : Row) × (slice_get (first ∷ next ∷ rows) 1 ≡ Some n)
    × (n.program ≡ r.program) × (r.address ≤ n.address)) same
    (let p = all.0 (ap (λ (r : Row). r.«end») same ∙ e) in (next, refl, p.0, p.1))
have-next (first ∷ next ∷ rows) all (suc i) row is e =
    rw add-one (rw add-one at (have-next (next ∷ rows) all.1 i row is e))

pub rows-have-next : (s : LineSections) (lines : Lines) → lines_in s ≡ Ok lines
    → HaveNext lines.rows
rows-have-next s lines h =
    let read = lines_in-ok s lines h in
    rw read.3 (have-next (rows_of read.0)
    (list-continues s [] 0 read.0 read.1
    (Lists-within _ (next_program s) [] 0 read.0 read.1 read.2)))
