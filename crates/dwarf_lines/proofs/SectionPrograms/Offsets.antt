-- Each program starts where the one before it ends, so their offsets increase.
use Rattle.std.proofs.Common.{◌≡◌, ℕ, ◌<◌, List, [], ◌∷◌, ◌++◌, length, get_or, map, Ok, refl, sym}
use Rattle.std.proofs.Common.{ap, ◌∙◌, subst, arith}
use Rattle.std.specs.Prelude.{nat_le}
use Rattle.std.specs.List.Sorted.{IsStrictlyIncreasing}
use Rattle.dwarf_bytes.specs.declared.fault.Cause.{Cause}
use Rattle.dwarf_bytes.specs.Bind.{◌>>=◌}
use Rattle.dwarf_bytes.specs.Items.{Item, End, Lists}
use Rattle.dwarf_bytes.proofs.Numbers.Advance.{after-bind, chosen}
use Rattle.dwarf_bytes.proofs.Items.ItemLaws.{Lists-within}
use Rattle.dwarf_lines.specs.declared.programs.ProgramFiles.{ProgramFiles}
use Rattle.dwarf_lines.specs.Sections.{LineSections}
use Rattle.dwarf_lines.specs.Matrix.{matrix_at}
use Rattle.dwarf_lines.specs.Headers.{header_at}
use Rattle.dwarf_lines.specs.Programs.{Program, program_at_place, next_program, programs_of}
use Rattle.dwarf_lines.specs.Lines.{FileTables, tables_of}
use Rattle.dwarf_lines.specs.Private.Stored.{tables_in}
use Rattle.std.proofs.Common.{take}
use Rattle.dwarf_lines.proofs.Headers.BoundsLaws.{ok-is}
use Rattle.dwarf_lines.proofs.Lists.Positions.{rising-cons}
use Rattle.dwarf_lines.proofs.SectionPrograms.ProgramTurns.{programs-advance, item_or}

abbrev pub offset_of : Program → ℕ
offset_of program = program.offset

program_at_place-offset : (s : LineSections) (number place : ℕ) (program : Program)
    → program_at_place s number place ≡ Ok program
    → program.offset ≡ place
unfolding program_at_place
program_at_place-offset s number place program h =
    let P : Type 0 = program.offset ≡ place in
    after-bind (header_at s place) _ program h P (λ header header_is h1.
    after-bind (matrix_at header.encoding
    (record { program = record { 0 = number }; files = length header.files })
    (take header.past s.line) header.first) _ program h1 P (λ rows rows_is h2.
    sym (ap offset_of (ok-is {E = Cause}
    (record {
      offset = place;
      directories = header.directories;
      files = header.files;
      rows =
          rows;
      past = header.past;
    }) program h2))))

next-offset : (s : LineSections) (before : List Program) (place : ℕ) (program : Program) (after : ℕ)
    → next_program s before place ≡ Ok (Item program after) → program.offset ≡ place
next-offset s before place x after h =
    let P : Type 0 = x.offset ≡ place in
    chosen (nat_le (length s.line) place) (Ok (End place))
    (program_at_place s (length before) place >>= λ program. Ok (Item program program.past))
    (Ok (Item x after)) h P (λ _ e. cc) (λ _ e.
    after-bind (program_at_place s (length before) place) _ (Item x after) e P
    (λ program program_is e1.
    let same : program ≡ x = ap (item_or x)
    (ok-is {E = Cause} (Item program program.past) (Item x after) e1) in
    subst (λ (p : Program). p.offset ≡ place) same
    (program_at_place-offset s (length before) place program program_is)))

-- the offsets of programs listed from an offset on
pub list-rises : (s : LineSections) (before : List Program) (place : ℕ) (programs : List Program)
    (after : ℕ)
    → Lists (next_program s) before place programs after
    → IsStrictlyIncreasing (map offset_of programs)
    × (0 < length programs → get_or (map offset_of programs) 0 0 ≡ place)
list-rises s before place [] after h = (λ k lt. absurd (omega arith), λ lt. absurd (omega arith))
list-rises s before place (program ∷ programs) after h =
    let rest = list-rises s (before ++ program ∷ []) h.0 programs after h.2 in
    let here = next-offset s before place program h.0 h.1 in
    let moves = programs-advance s before place program h.0 h.1 in (
      rising-cons program.offset (map offset_of programs)
          (first programs rest.1 (omega (arith, here, moves.0))) rest.0,
      λ _. here,
    )
  where
    first : (rest : List Program) → (0 < length rest → get_or (map offset_of rest) 0 0 ≡ h.0)
        → program.offset < h.0
        → 0 < length (map offset_of rest) → program.offset < get_or (map offset_of rest) 0 0
    first [] is lt none = absurd (omega arith)
    first (next ∷ rest) is lt some = let there = is (omega arith) in omega (arith, there)

pub programs-rise : (s : LineSections) (programs : List Program) (after : ℕ)
    → programs_of s ≡ Ok (programs, after)
    → IsStrictlyIncreasing (map offset_of programs)
programs-rise s programs after h = (list-rises s [] 0 programs after
    (Lists-within _ (next_program s) [] 0 programs after h)).0

pub offsets-of : (programs : List Program)
    → map (λ (t : FileTables). t.offset) (map tables_of programs) ≡ map offset_of programs
offsets-of [] = refl
offsets-of (program ∷ programs) = ap (λ (offsets : List ℕ). program.offset ∷ offsets)
    (offsets-of programs)

offsets-in : (programs : List ProgramFiles)
    → map (λ (t : FileTables). t.offset) (map tables_in programs)
    ≡ map (λ (p : ProgramFiles). p.offset) programs
offsets-in [] = refl
offsets-in (program ∷ programs) = ap (λ (offsets : List ℕ). program.offset ∷ offsets)
    (offsets-in programs)

-- the offsets of the stored tables
pub tables-rise : (s : LineSections) (before : List Program) (place : ℕ)
    (programs : List ProgramFiles) (after : ℕ)
    → programs_of s ≡ Ok (before, after) → map tables_in programs ≡ map tables_of before
    → IsStrictlyIncreasing (map (λ (p : ProgramFiles). p.offset) programs)
tables-rise s before place programs after read kept =
    let same : map offset_of before ≡ map (λ (p : ProgramFiles). p.offset) programs =
    sym (offsets-of before) ∙ ap (λ (tables : List FileTables). map (λ (t : FileTables). t.offset)
    tables) (sym kept) ∙ offsets-in programs in
    subst IsStrictlyIncreasing same (programs-rise s before after read)
