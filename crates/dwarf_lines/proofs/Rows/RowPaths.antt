-- Each row that does not end its sequence has a path.
use Rattle.std.proofs.Common.{◌≡◌, ℕ, zero, suc, ◌+◌, ◌<◌, List, [], ◌∷◌, ◌++◌, Bool, true, false}
use Rattle.std.proofs.Common.{length, map, Result, Ok, Some, refl, sym, ◌∙◌, subst, arith}
use Rattle.std.proofs.Common.{append_assoc}
use Rattle.std.specs.Prelude.{ℤ, slice_get}
use Rattle.std.specs.Option.{option_and_then}
use Rattle.std.proofs.lemmas.Bool.{false≢true, ltb-true}
use Rattle.std.proofs.lemmas.Bool.Decides.{nat_tests}
use Rattle.dwarf_bytes.specs.declared.fault.Cause.{Cause}
use Rattle.dwarf_bytes.specs.declared.format.Format.{Format}
use Rattle.dwarf_bytes.specs.Items.{Lists}
use Rattle.dwarf_bytes.proofs.Numbers.Advance.{after-bind}
use Rattle.dwarf_bytes.proofs.Items.ItemLaws.{Lists-within}
use Rattle.dwarf_lines.specs.declared.row.Row.{Row}
use Rattle.dwarf_lines.specs.declared.row.ProgramNo.{ProgramNo}
use Rattle.dwarf_lines.specs.declared.row.Origin.{Origin}
use Rattle.dwarf_bytes.specs.declared.text.Text.{Text}
use Rattle.dwarf_lines.specs.declared.entries.Entry.{Entry}
use Rattle.dwarf_lines.specs.declared.formats.Field.{Field}
use Rattle.dwarf_lines.specs.declared.formats.EntryTable.{EntryTable}
use Rattle.dwarf_lines.specs.declared.formats.EntryTable.TheVariants.{Files}
use Rattle.dwarf_lines.specs.declared.instruction.Instruction.{Instruction}
use Rattle.dwarf_lines.specs.declared.instruction.Instruction.TheVariants.{EndSequence}
use Rattle.dwarf_lines.specs.Instructions.{Encoding}
use Rattle.dwarf_lines.specs.Matrix.{address_after, line_after, file_after, starts_at_tombstone}
use Rattle.dwarf_lines.specs.Matrix.{row_before, checked_address, checked_line, checked_file}
use Rattle.dwarf_lines.specs.Matrix.{line_row, end_row, made, rows_from}
use Rattle.dwarf_lines.specs.Sections.{LineSections}
use Rattle.dwarf_lines.specs.Entries.{has_directory}
use Rattle.dwarf_lines.specs.HeaderEncodings.{EncodesEach, EncodesEntry}
use Rattle.dwarf_lines.specs.Paths.{path_parts, nonempty_parts, texts_of}
use Rattle.dwarf_lines.specs.Programs.{Program, program_at_place, next_program, rows_of}
use Rattle.dwarf_lines.specs.Lines.{FileTables, tables_of, Lines, lines_in, HavePaths}
use Rattle.dwarf_lines.proofs.Headers.BoundsLaws.{ok-is}
use Rattle.dwarf_lines.proofs.Machine.StepRows.{made-row, made-nothing, made-tombstone, made-alive}
use Rattle.dwarf_lines.proofs.Machine.MachineLaws.{rows-by-machine}
use Rattle.dwarf_lines.proofs.Rows.Sequences.{IsChain, Kind, quiet, makes, ends, kind_of}
use Rattle.dwarf_lines.proofs.Rows.Sequences.{end_row-is}
use Rattle.dwarf_lines.proofs.Rows.SequenceChains.{program-chain, found_at, lines_in-ok, some-is}
use Rattle.dwarf_lines.proofs.SectionPrograms.WholePrograms.{program-encoded}

abbrev Each : {X : Type 0} → (X → Type 0) → List X → Type 0
Each P [] = Unit {0}
Each P (x ∷ xs) = P x × Each P xs

each-append : {X : Type 0} (P : X → Type 0) (xs ys : List X) → Each P xs → Each P ys
    → Each P (xs ++ ys)
each-append P [] ys all others = others
each-append P (x ∷ xs) ys all others = (all.0, each-append P xs ys all.1 others)

each-two : {X : Type 0} (P Q R : X → Type 0) (xs : List X) → ((x : X) → P x → Q x → R x) → Each P xs
    → Each Q xs → Each R xs
each-two P Q R [] both p q = tt
each-two P Q R (x ∷ xs) both p q = (both x p.0 q.0, each-two P Q R xs both p.1 q.1)

each-at : {X : Type 0} (P : X → Type 0) (xs : List X) → Each P xs → (i : ℕ) (x : X)
    → slice_get xs i ≡ Some x → P x
each-at P [] all i x is = cc
each-at P (first ∷ xs) all zero x is = subst P (some-is first x is) all.0
each-at P (first ∷ xs) all (suc i) x is = each-at P xs all.1 i x is

got : {X : Type 0} (xs : List X) (i : ℕ) → i < length xs → (x : X) × (slice_get xs i ≡ Some x)
got [] i lt = absurd (omega (arith, lt))
got (x ∷ xs) zero lt = (x, refl)
got (x ∷ xs) (suc i) lt = got xs i (omega (arith, lt))

-- ---- the file of a row exists

abbrev HasFile : ℕ → Row → Type 0
HasFile files row = row.«end» ≡ false → row.file < files

checked_file-is : (files file found : ℕ) → checked_file files file ≡ Ok found → found < files
checked_file-is files file found h = grind (arith, nat_tests)

line_row-file : (o : Origin) (previous sum : ℕ) (line : ℤ) (file : ℕ) (row : Row)
    → line_row o previous sum line file ≡ Ok row
    → HasFile o.files row
line_row-file o previous sum line file row h =
    let P : Type 0 = HasFile o.files row in
    after-bind (checked_address previous sum) _ row h P (λ address address-is h1.
    after-bind (checked_line line) _ row h1 P (λ l l_is h2.
    after-bind (checked_file o.files file) _ row h2 P (λ f f_is h3.
    let same : record { address = address; program = o.program; file = f; line = l; «end» = false }
    ≡ row = ok-is {E = Cause} (record
    { address = address; program = o.program; file = f; line = l; «end» = false }) row h3 in
    λ _. subst (λ (r : Row). r.file < o.files) same (checked_file-is o.files file f f_is))))

no-rows : (files : ℕ) (rows : List Row) → (let none : Result (List Row) Cause = Ok [] in
    none ≡ Ok rows) → Each (HasFile files) rows
no-rows files rows h = subst (λ (r : List Row). Each (HasFile files) r)
    (ok-is {E = Cause} [] rows h) tt

made-files : (e : Encoding) (o : Origin) (before : List Instruction) (i : Instruction)
    (rows : List Row) → made e o before i ≡ Ok rows
    → Kind i → Each (HasFile o.files) rows
made-files e o before i rows is (quiet e_is m_is) =
    no-rows o.files rows (sym (made-nothing e o i before e_is m_is) ∙ is)
made-files e o before i rows is (makes e_is m_is) = by (starts_at_tombstone before) refl
  where
    by : (b : Bool) → starts_at_tombstone before ≡ b → Each (HasFile o.files) rows
    by true d = no-rows o.files rows (sym (made-tombstone e o before i d) ∙ is)
    by false d =
        after-bind (line_row o (row_before e before) (address_after e (i ∷ before))
        (line_after e (i ∷ before)) (file_after (i ∷ before))) _ rows
        (sym (made-row e o i before m_is d) ∙ is) (Each (HasFile o.files) rows)
        (λ found found_is h.
        subst (λ (r : List Row). Each (HasFile o.files) r) (ok-is {E = Cause} (found ∷ []) rows h) (
          line_row-file o (row_before e before) (address_after e (i ∷ before))
              (line_after e (i ∷ before)) (file_after (i ∷ before)) found found_is,
          tt,
        ))
made-files e o before i rows is (ends i_is) = by (starts_at_tombstone before) refl
  where
    made_is : made e o before EndSequence ≡ Ok rows
    made_is = subst (λ (j : Instruction). made e o before j ≡ Ok rows) i_is is

    by : (b : Bool) → starts_at_tombstone before ≡ b → Each (HasFile o.files) rows
    by true d = no-rows o.files rows (sym (made-tombstone e o before EndSequence d) ∙ made_is)
    by false d =
        after-bind (end_row o (row_before e before) (address_after e before)) _ rows
        (sym (made-alive e o before EndSequence d) ∙ made_is) (Each (HasFile o.files) rows)
        (λ found found_is h.
        let at = end_row-is o (row_before e before) (address_after e before) found found_is in
        subst (λ (r : List Row). Each (HasFile o.files) r) (ok-is {E = Cause} (found ∷ []) rows h)
        ((λ open_row. absurd (false≢true (sym open_row ∙ at.end_is))), tt))

rows-files : (e : Encoding) (o : Origin) (before rest : List Instruction) (rows : List Row)
    → rows_from e o before rest ≡ Ok rows
    → Each (HasFile o.files) rows
unfolding rows_from
rows-files e o before [] rows is = no-rows o.files rows is
rows-files e o before (i ∷ rest) rows is =
    after-bind (made e o before i) _ rows is (Each (HasFile o.files) rows) (λ row row_is h1.
    after-bind (rows_from e o (i ∷ before) rest) _ rows h1 (Each (HasFile o.files) rows)
    (λ others others_is h2.
    subst (λ (r : List Row). Each (HasFile o.files) r) (ok-is {E = Cause} (row ++ others) rows h2)
    (each-append (HasFile o.files) row others (made-files e o before i row row_is (kind_of i))
    (rows-files e o (i ∷ before) rest others others_is))))

-- ---- the directory of a file exists

abbrev HasDirectory : EntryTable → Entry → Type 0
HasDirectory table entry = has_directory table entry ≡ true

entries-of-table : (s : LineSections) (format : Format) (table : EntryTable) (fields : List Field)
    (place : ℕ) (bytes : List ℕ) (entries : List Entry)
    → EncodesEach (EncodesEntry s format table fields) place bytes entries
    → Each (HasDirectory table) entries
entries-of-table s format table fields place bytes [] h = tt
entries-of-table s format table fields place bytes (entry ∷ entries) h =
    (h.3.in_table, entries-of-table s format table fields (place + length h.0) h.1 entries h.4)

path-there : (directories files : List Entry) (number : ℕ) → number < length files
    → Each (HasDirectory (Files (length directories))) files
    → (parts : List Text) × (path_parts directories files number ≡ Some parts)
path-there directories files number lt known =
    let file = got files number lt in
    let within = ltb-true file.0.directory (length directories)
    (each-at (HasDirectory (Files (length directories))) files known number file.0 file.1) in
    let directory = got directories file.0.directory within in
    let current = got directories 0 (omega (arith, within)) in (
      nonempty_parts (texts_of current.0.path file.0.directory directory.0.path file.0.path),
      rw (file.1, directory.1, current.1) refl,
    )

-- ---- the paths of a program's rows

abbrev HasPath : Program → Row → Type 0
HasPath program row = row.«end» ≡ false → (parts : List Text)
    × (path_parts program.directories program.files row.file ≡ Some parts)

program-paths : (s : LineSections) (number place : ℕ) (program : Program)
    → program_at_place s number place ≡ Ok program
    → Each (HasPath program) program.rows
program-paths s number place program h =
    let p = program-encoded s number place program h in
    let header = p.header in
    let o : Origin = record { program = record { 0 = number }; files = length header.files } in
    let f = p.header_is.encoded.fields_are.files_are in
    let known = entries-of-table s _ (Files (length header.directories)) f.fields _ f.items
    header.files f.entries_are in
    let files = rows-files header.encoding o [] p.instructions program.rows
    (rows-by-machine header.encoding o p.instructions ∙ p.rows_are) in
    let whole : Program = record {
      offset = place;
      directories = header.directories;
      files =
          header.files;
      rows = program.rows;
      past = header.past;
    } in
    let paths : Each (HasPath whole) program.rows =
    each-two (HasFile (length header.files)) (HasFile (length header.files)) (HasPath whole)
    program.rows
    (λ row file _. λ open_row. path-there header.directories header.files row.file (file open_row)
    known) files files in
    subst (λ (q : Program). Each (HasPath q) program.rows) (sym p.program_is) paths

-- ---- the paths of a section's rows

abbrev HasPathIn : List FileTables → Row → Type 0
HasPathIn tables row = row.«end» ≡ false
    → (parts : List Text) × (option_and_then
    (λ program. path_parts program.directories program.files row.file)
    (slice_get tables row.program.0) ≡ Some parts)

chain-programs : (program : ProgramNo) (has_row : Bool) (previous : ℕ) (rows : List Row)
    → IsChain program has_row previous rows → Each (λ (row : Row). row.program ≡ program) rows
chain-programs program has_row previous [] chain = tt
chain-programs program has_row previous (row ∷ rows) chain =
    (chain.0, chain-programs program _ row.address rows chain.2)

-- the tables after others
tables-at : (before : List Program) (program : Program) (programs : List Program)
    → slice_get (map tables_of (before ++ program ∷ programs)) (length before)
    ≡ Some (tables_of program)
tables-at [] program programs = refl
tables-at (first ∷ before) program programs = tables-at before program programs

list-paths : (s : LineSections) (before : List Program) (place : ℕ) (programs : List Program)
    (after : ℕ)
    → Lists (next_program s) before place programs after
    → Each (HasPathIn (map tables_of (before ++ programs))) (rows_of programs)
list-paths s before place [] after h = tt
list-paths s before place (program ∷ programs) after h =
    let tables = map tables_of (before ++ program ∷ programs) in
    let found = found_at s before place program h.0 h.1 in
    let number : ProgramNo = record { 0 = length before } in
    let chain = chain-programs number false 0 program.rows
    (program-chain s (length before) place program found) in
    let paths = program-paths s (length before) place program found in
    let here : Each (HasPathIn tables) program.rows =
    each-two (λ (row : Row). row.program ≡ number) (HasPath program) (HasPathIn tables)
    program.rows
    (λ row of has. λ open_row. let path = has open_row in
    (path.0, rw (of, tables-at before program programs) path.1)) chain paths in
    let rest = list-paths s (before ++ program ∷ []) h.0 programs after h.2 in
    let same : (before ++ program ∷ []) ++ programs ≡ before ++ program ∷ programs =
    append_assoc before (program ∷ []) programs in
    each-append (HasPathIn tables) program.rows (rows_of programs) here
    (subst (λ (all : List Program). Each (HasPathIn (map tables_of all)) (rows_of programs))
    same rest)

pub rows-have-paths : (s : LineSections) (lines : Lines) → lines_in s ≡ Ok lines → HavePaths lines
rows-have-paths s lines h =
    let read = lines_in-ok s lines h in
    rw read.3 (λ i row is open_row. each-at (HasPathIn (map tables_of read.0)) (rows_of read.0)
    (list-paths s [] 0 read.0 read.1
    (Lists-within _ (next_program s) [] 0 read.0 read.1 read.2)) i row is open_row)
