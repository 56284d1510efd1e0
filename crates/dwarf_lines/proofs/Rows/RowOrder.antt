-- The rows of a program precede the rows of later programs.
use Rattle.std.proofs.Common.{◌≡◌, ℕ, zero, suc, ◌<◌, ◌≤◌, List, [], ◌∷◌, ◌++◌, Bool, false, not}
use Rattle.std.proofs.Common.{length, Ok, sym, subst, arith}
use Rattle.std.specs.Prelude.{slice_index_or}
use Rattle.std.specs.List.Sorted.{IsNonDecreasingBy}
use Rattle.std.proofs.lemmas.List.{length-append}
use Rattle.dwarf_bytes.specs.Items.{Lists}
use Rattle.dwarf_bytes.proofs.Items.ItemLaws.{Lists-within}
use Rattle.dwarf_lines.specs.declared.row.Row.{Row}
use Rattle.dwarf_lines.specs.declared.row.ProgramNo.{ProgramNo}
use Rattle.dwarf_lines.specs.Sections.{LineSections}
use Rattle.dwarf_lines.specs.Programs.{Program, next_program, rows_of}
use Rattle.dwarf_lines.specs.Lines.{Lines, lines_in}
use Rattle.dwarf_lines.proofs.Rows.Sequences.{IsChain}
use Rattle.dwarf_lines.proofs.Rows.SequenceChains.{program-chain, found_at, lines_in-ok}

-- the program numbers of the rows are in ascending order, from low on
abbrev RiseFrom : ℕ → List Row → Type 0
RiseFrom low [] = Unit {0}
RiseFrom low (row ∷ rows) = (low ≤ row.program.0) × RiseFrom row.program.0 rows

from-lower : (low high : ℕ) (rows : List Row) → low ≤ high → RiseFrom high rows → RiseFrom low rows
from-lower low high [] le rise = tt
from-lower low high (row ∷ rows) le rise = let first = rise.0 in (omega (arith, le, first), rise.1)

chain-rises : (program : ProgramNo) (has_row : Bool) (low previous : ℕ) (rows rest : List Row)
    → low ≤ program.0
    → IsChain program has_row previous rows → RiseFrom program.0 rest → RiseFrom low (rows ++ rest)
chain-rises program has_row low previous [] rest le chain rise =
    from-lower low program.0 rest le rise
chain-rises program has_row low previous (row ∷ rows) rest le chain rise =
    subst (λ (p : ProgramNo). (low ≤ p.0) × RiseFrom p.0 (rows ++ rest)) (sym chain.0) (
      le,
      chain-rises program (not row.«end») program.0 row.address rows rest (omega arith) chain.2
          rise,
    )

list-rises : (s : LineSections) (before : List Program) (place : ℕ) (programs : List Program)
    (after : ℕ)
    → Lists (next_program s) before place programs after
    → RiseFrom (length before) (rows_of programs)
list-rises s before place [] after h = tt
list-rises s before place (program ∷ programs) after h =
    let more = length-append before (program ∷ []) in
    let rest = list-rises s (before ++ program ∷ []) h.0 programs after h.2 in
    chain-rises (record { 0 = length before }) false (length before) 0 program.rows
    (rows_of programs) (omega arith)
    (program-chain s (length before) place program (found_at s before place program h.0 h.1))
    (from-lower (length before) (length (before ++ program ∷ [])) (rows_of programs)
    (omega (arith, more)) rest)

ordered : (low : ℕ) (rows : List Row) → RiseFrom low rows → (i j : ℕ) (d : Row) → i ≤ j
    → j < length rows
    → (low ≤ (slice_index_or rows i d).program.0)
    × ((slice_index_or rows i d).program.0 ≤ (slice_index_or rows j d).program.0)
ordered low [] rise i j d le lt = absurd (omega (arith, lt))
ordered low (row ∷ rows) rise zero zero d le lt = (rise.0, omega arith)
ordered low (row ∷ rows) rise zero (suc j) d le lt = let rest =
    ordered row.program.0 rows rise.1 j j d (omega arith) (omega (arith, lt)) in (rise.0, rest.0)
ordered low (row ∷ rows) rise (suc i) zero d le lt = absurd (omega (arith, le))
ordered low (row ∷ rows) rise (suc i) (suc j) d le lt =
    let first = rise.0 in
    let rest = ordered row.program.0 rows rise.1 i j d (omega (arith, le)) (omega (arith, lt)) in
    (let above = rest.0 in omega (arith, first, above), rest.1)

pub rows-are-in-order : (s : LineSections) (lines : Lines) → lines_in s ≡ Ok lines
    → IsNonDecreasingBy (λ (row : Row). row.program.0) lines.rows
rows-are-in-order s lines h =
    let read = lines_in-ok s lines h in
    rw read.3 (λ i j d le lt. (ordered 0 (rows_of read.0)
    (list-rises s [] 0 read.0 read.1
    (Lists-within _ (next_program s) [] 0 read.0 read.1 read.2)) i j d le lt).1)
