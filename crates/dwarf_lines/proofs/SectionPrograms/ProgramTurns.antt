-- The iterations of the loop that reads the programs.
use Rattle.std.proofs.Common.{◌≡◌, ℕ, ◌<◌, ◌≤◌, List, [], ◌∷◌, ◌++◌, length, take, map, true, false}
use Rattle.std.proofs.Common.{Result, Ok, Err, refl, sym, ap, ◌∙◌, subst, arith, inl, inr}
use Rattle.std.specs.Prelude.{nat_le, ◌⊎◌}
use Rattle.std.proofs.lemmas.List.{length-map, append-nil, map-append}
use Rattle.std.proofs.lemmas.Grind.{flat_map-append}
use Rattle.std.proofs.lemmas.Bool.Decides.{nat_tests}
use Rattle.dwarf_bytes.specs.Bind.{◌>>=◌}
use Rattle.dwarf_bytes.specs.declared.fault.Section.{Section}
use Rattle.dwarf_bytes.specs.declared.fault.Section.TheVariants as sections
use Rattle.dwarf_bytes.specs.declared.fault.Cause.{Cause}
use Rattle.dwarf_bytes.specs.declared.fault.Cause.TheVariants as causes
use Rattle.dwarf_bytes.specs.Items.{At, Next, Item, End, items_from, Advances}
use Rattle.dwarf_bytes.specs.Refusals.{memory_fault, at_item, Fails}
use Rattle.dwarf_bytes.proofs.Numbers.Advance.{after-bind, chosen}
use Rattle.dwarf_bytes.proofs.Items.ItemLaws.{with_front as with_programs, loop-item, loop-end}
use Rattle.dwarf_bytes.proofs.Items.ItemLaws.{loop-fault}
use Rattle.dwarf_lines.specs.declared.row.Row.{Row}
use Rattle.dwarf_lines.specs.Sections.{LineSections}
use Rattle.dwarf_lines.specs.Matrix.{matrix_at, with_front}
use Rattle.dwarf_lines.specs.Headers.{LineHeader, header_at}
use Rattle.dwarf_lines.specs.Programs.{Program, program_at_place, next_program, programs_of}
use Rattle.dwarf_lines.specs.Programs.{rows_of}
use Rattle.dwarf_lines.specs.Lines.{FileTables, tables_of, lines_in}
use Rattle.dwarf_lines.proofs.Headers.BoundsLaws.{ok-is, header_at-past}

-- the rows of the outcome, after the rows before them
pub front_ok : (front : List Row) (outcome : Result (List Row) Cause) (all : List Row)
    → with_front front outcome ≡ Ok all
    → (rows : List Row) × (outcome ≡ Ok rows) × (all ≡ front ++ rows)
front_ok front (Ok rows) all h = (rows, refl, cc)
front_ok front (Err cause) all h = cc

is-program : (s : LineSections) (number place n files : ℕ) (header : LineHeader) (rows : List Row)
    → n ≡ number
    → files ≡ length header.files → header_at s place ≡ Ok header
    → matrix_at header.encoding (record { program = record { 0 = n }; files = files })
    (take header.past s.line) header.first ≡ Ok rows
    → program_at_place s number place ≡ Ok
    (record {
      offset = place;
      directories = header.directories;
      files = header.files;
      rows =
          rows;
      past = header.past;
    })
unfolding program_at_place
is-program s number place n files header rows n_is files_is header_is rows_is =
    rw (header_is, ← n_is, ← files_is, rows_is) refl

-- the program with a header and its rows
pub program-of : (s : LineSections) (number place n files : ℕ) (header : LineHeader)
    (old new : List Row) → n ≡ number
    → files ≡ length header.files → header_at s place ≡ Ok header
    → with_front old (matrix_at header.encoding
    (record { program = record { 0 = n }; files = files }) (take header.past s.line)
    header.first) ≡ Ok new
    → (rows : List Row)
    × (program_at_place s number place ≡ Ok
    (record {
      offset = place;
      directories = header.directories;
      files = header.files;
      rows =
          rows;
      past = header.past;
    })) × (new ≡ old ++ rows)
program-of s number place n files header old new n_is files_is header_is ran =
    let found = front_ok old (matrix_at header.encoding
    (record { program = record { 0 = n }; files = files }) (take header.past s.line)
    header.first) new ran in (
      found.0,
      is-program s number place n files header found.0 n_is files_is header_is found.1,
      found.2,
    )

-- a program has at least one byte, and ends within the section
pub program_at_place-past : (s : LineSections) (number place : ℕ) (program : Program)
    → program_at_place s number place ≡ Ok program
    → (place < program.past) × (program.past ≤ length s.line)
unfolding program_at_place
program_at_place-past s number place program h =
    let P : Type 0 = (place < program.past) × (program.past ≤ length s.line) in
    after-bind (header_at s place) _ program h P (λ header header_is h1.
    after-bind (matrix_at header.encoding
    (record { program = record { 0 = number }; files = length header.files })
    (take header.past s.line) header.first) _ program h1 P (λ rows rows_is h2.
    let same : header.past ≡ program.past = ap (λ (p : Program). p.past)
    (ok-is {E = Cause} (record {
      offset = place;
      directories = header.directories;
      files =
          header.files;
      rows = rows;
      past = header.past;
    }) program h2) in
    let places = header_at-past s place header header_is in
    (omega (arith, places.0), omega (arith, places.1))))

abbrev pub item_or : Program → Next Program → Program
item_or other (Item program after) = program
item_or other (End after) = other

abbrev after_of : Next Program → ℕ
after_of (Item program after) = after
after_of (End after) = after

pub programs-advance : (s : LineSections) → Advances (length s.line) (next_program s)
programs-advance s before place x after h =
    let P : Type 0 = (place < after) × (after ≤ length s.line) in
    chosen (nat_le (length s.line) place) (Ok (End place))
    (program_at_place s (length before) place >>= λ program. Ok (Item program program.past))
    (Ok (Item x after)) h P (λ _ e. cc) (λ _ e.
    after-bind (program_at_place s (length before) place) _ (Item x after) e P
    (λ program program_is e1.
    let same : Item program program.past ≡ Item x after =
    ok-is {E = Cause} (Item program program.past) (Item x after) e1 in
    let last : program.past ≡ after = ap after_of same in
    let places = program_at_place-past s (length before) place program program_is in
    (omega (arith, places.0), omega (arith, places.1))))

-- The invariant of the loop over the programs: these programs are before the current offset.
pub record IsReading (s : LineSections) (before : List Program) (place : ℕ) (rows : List Row)
    (tables : List FileTables) : Type 0 where
  pub rows_are : rows ≡ rows_of before
  pub tables_are : tables ≡ map tables_of before
  pub inside : place ≤ length s.line
  pub outcome : with_programs before (items_from (length s.line) (next_program s) before place)
      ≡ programs_of s

-- the loop starts at offset 0 with no programs
pub begins : (s : LineSections) → IsReading s [] 0 [] []
begins s = record {
  rows_are = refl;
  tables_are = refl;
  inside = omega arith;
  outcome =
      nothing_before (programs_of s);
}
  where
    nothing_before : (read : Result (List Program × ℕ) At) → with_programs [] read ≡ read
    nothing_before (Ok read) = refl
    nothing_before (Err fault) = refl

module _ (s : LineSections) (before : List Program) (place : ℕ) (rows : List Row)
    (tables : List FileTables) (reads : IsReading s before place rows tables) where
  number_is : length tables ≡ length before
  number_is = ap length reads.tables_are ∙ length-map before tables_of

  pub goes_on : (program : Program) → place < length s.line
      → program_at_place s (length tables) place ≡ Ok program
      → IsReading s (before ++ program ∷ []) program.past (rows ++ program.rows)
      (tables ++ tables_of program ∷ [])
  goes_on program lt found =
      let here : program_at_place s (length before) place ≡ Ok program =
      subst (λ (n : ℕ). program_at_place s n place ≡ Ok program) number_is found in
      let inside : nat_le (length s.line) place ≡ false = grind (arith, nat_tests) in
      let next : next_program s before place ≡ Ok (Item program program.past) =
      rw (inside, here) refl in
      record {
        rows_are = rw (reads.rows_are, flat_map-append, append-nil) refl;
        tables_are = rw (reads.tables_are, map-append) refl;
        inside = let places = program_at_place-past s (length before) place program here in
            omega (arith, places.1);
        outcome = sym (loop-item (length s.line) (next_program s) (programs-advance s) before place
            program program.past next) ∙ reads.outcome;
      }

  pub refused : (cause : Cause) → place < length s.line → program_at_place s (length tables) place
      ≡ Err cause
      → programs_of s ≡ Err (cause, place)
  refused cause lt found =
      let here : program_at_place s (length before) place ≡ Err cause =
      subst (λ (n : ℕ). program_at_place s n place ≡ Err cause) number_is found in
      let inside : nat_le (length s.line) place ≡ false = grind (arith, nat_tests) in
      let next : next_program s before place ≡ Err cause = rw (inside, here) refl in
      sym reads.outcome ∙ loop-fault (length s.line) (next_program s) (programs-advance s) before
      place cause next

  pub is-done : length s.line ≤ place → programs_of s ≡ Ok (before, place)
  is-done le =
      let past : nat_le (length s.line) place ≡ true = grind (arith, nat_tests) in
      let next : next_program s before place ≡ Ok (End place) = rw past refl in
      sym reads.outcome ∙ loop-end (length s.line) (next_program s) (programs-advance s) before
      place place next ∙ ap (λ (all : List Program). Ok (all, place)) (append-nil before)

  pub gives : length s.line ≤ place → lines_in s ≡ Ok (record { rows = rows; programs = tables })
  unfolding lines_in
  gives le = rw (is-done le, reads.rows_are, reads.tables_are) refl

-- out of memory is reported without the item; every other cause is reported with it
at_item-cases : (section : Section) (cause : Cause) (at : ℕ)
    → (at_item section cause at ≡ memory_fault)
    ⊎ (at_item section cause at ≡ record { section = section; cause = cause; at = at })
at_item-cases section causes.Memory at = inl refl
at_item-cases section cause at = inr refl

-- a fault of a program is the fault of the lines, unless memory ran out
pub refuses : (s : LineSections) (before : List Program) (place : ℕ) (rows : List Row)
    (tables : List FileTables)
    → IsReading s before place rows tables → (cause : Cause) → place < length s.line
    → Fails cause (program_at_place s (length tables) place)
    → (at_item sections.DebugLine cause place ≡ memory_fault)
    ⊎ (lines_in s ≡ Err (at_item sections.DebugLine cause place))
unfolding lines_in
refuses s before place rows tables reads cause lt (inl memory) = inl (rw memory refl)
refuses s before place rows tables reads cause lt (inr found) =
    by_fault (at_item-cases sections.DebugLine cause place)
  where
    fault-is : lines_in s ≡ Err (record { section = sections.DebugLine; cause = cause; at = place })
    fault-is = rw (refused s before place rows tables reads cause lt found) refl

    by_fault : (at_item sections.DebugLine cause place ≡ memory_fault)
        ⊎ (at_item sections.DebugLine cause place
        ≡ record { section = sections.DebugLine; cause = cause; at = place })
        → (at_item sections.DebugLine cause place ≡ memory_fault)
        ⊎ (lines_in s ≡ Err (at_item sections.DebugLine cause place))
    by_fault (inl memory) = inl memory
    by_fault (inr same) = inr (rw same fault-is)
