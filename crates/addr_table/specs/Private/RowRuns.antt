-- Runs of rows that cover addresses, and a cursor over the starts of their rows.
use Rattle.std.specs.Prelude.{◌≡◌, ℕ, ◌+◌, ◌<◌, ◌≤◌, ◌^◌, List, [], ◌∷◌, ◌++◌, length, drop}
use Rattle.std.specs.Prelude.{take, false, Option, Some, None}
use Rattle.std.specs.Prelude.{filter, flat_map, map, nat_le, slice_index_or}
use Rattle.std.specs.List.{All}
use Rattle.std.specs.List.Sorted.{IsPermutation, IsNonDecreasingBy}
use Rattle.dwarf_lines.specs.declared.row.Row.{Row}
use Rattle.addr_table.specs.declared.starts.Start.{Start}
use Rattle.addr_table.specs.declared.row_runs.Run.{Run}
use Rattle.addr_table.specs.Private.RowOrder.{covering_at, covering_from, row_address, row_start}
use Rattle.addr_table.specs.Private.RowOrder.{no_row, sequence_at}

abbrev pub no_run : Run
no_run = record { first = 0; last = 0 }

-- the rows of a run after its first row
abbrev pub later_rows : List Row → Run → List ℕ
later_rows rows run = filter (λ n. nat_le n run.last) (sequence_at rows (run.first + 1))

-- the rows of a run: the first one, and the covering rows of its sequence up to the last one
abbrev pub rows_of_run : List Row → Run → List ℕ
rows_of_run rows run = run.first ∷ later_rows rows run

abbrev pub rows_in : List Row → List Run → List ℕ
rows_in rows runs = flat_map (rows_of_run rows) runs

-- the rows of the rest of a run, if there is one
abbrev pub rows_of_rest : List Row → Option Run → List ℕ
rows_of_rest rows None = []
rows_of_rest rows (Some run) = rows_of_run rows run

-- a row is the next covering row after row `last`, in the same sequence
abbrev pub Follows : List Row → ℕ → ℕ → Type 0
Follows rows last row = sequence_at rows (last + 1) ≡ row ∷ sequence_at rows (row + 1)

-- The first and the last row of a run are in one sequence: the covering rows after the first row
-- are the rest of the run and the covering rows after its last row.
abbrev pub IsRun : List Row → Run → Type 0
IsRun rows run =
    sequence_at rows (run.first + 1) ≡ later_rows rows run ++ sequence_at rows (run.last + 1)

-- the row after row n is in the same sequence, and its address is not lower
pub record RisesAfter (rows : List Row) (n : ℕ) : Type 0 where
  pub within : n + 1 < length rows
  pub inside : (slice_index_or rows (n + 1) no_row).«end» ≡ false
  pub up : row_address rows n ≤ row_address rows (n + 1)

-- the covering row after row `last` in the same sequence; its address is not lower
pub record Extends (rows : List Row) (last n : ℕ) : Type 0 where
  pub within : n < length rows
  pub follows : Follows rows last n
  pub covering : covering_at rows (last + 1) ≡ n ∷ covering_at rows (n + 1)
  pub up : row_address rows last ≤ row_address rows n

-- rows in ascending order of address, up to an address
pub record Ascend (rows : List Row) (high : ℕ) (ns : List ℕ) : Type 0 where
  pub rise : IsNonDecreasingBy (row_address rows) ns
  pub below : All (λ n. row_address rows n ≤ high) ns

abbrev pub Ascends : List Row → Run → Type 0
Ascends rows run = Ascend rows (row_address rows run.last) (rows_of_run rows run)

-- The first of the covering rows from row `first` on are a run.
pub record IsRunFrom (rows : List Row) (first : ℕ) (run : Run) : Type 0 where
  pub first_is : run.first ≡ first
  pub last_within : run.last < length rows
  pub is : IsRun rows run
  pub covering : rows_of_run rows run ++ covering_at rows (run.last + 1)
      ≡ first ∷ covering_at rows (first + 1)
  pub ascends : Ascends rows run

-- the address of the first row of the run at an index, and of its last row
abbrev pub run_low : List Row → List Run → ℕ → ℕ
run_low rows runs k = row_address rows (slice_index_or runs k no_run).first

abbrev pub run_high : List Row → List Run → ℕ → ℕ
run_high rows runs k = row_address rows (slice_index_or runs k no_run).last

-- all rows of some runs, in ascending order of address
pub record AreMerged (rows : List Row) (runs runs' : List Run) : Type 0 where
  pub permutation : IsPermutation (rows_in rows runs) (rows_in rows runs')
  pub rise : IsNonDecreasingBy (row_address rows) (rows_in rows runs')

-- a list of runs, with the rows of other runs appended in ascending order of address
pub record AppendsRows (rows : List Row) (group runs runs' : List Run) : Type 0 where
  pub added : List ℕ
  pub rows_are : rows_in rows runs' ≡ rows_in rows runs ++ added
  pub permutation : IsPermutation (rows_in rows group) added
  pub rise : IsNonDecreasingBy (row_address rows) added

-- The runs before an index are merged, and their rows are not above the first row of the next run.
pub record AreOrderedTo (rows : List Row) (runs : List Run) (index : ℕ)
    (runs' : List Run) : Type 0 where
  pub within : index ≤ length runs
  pub merged : AreMerged rows (take index runs) runs'
  pub below : index < length runs
      → All (λ n. row_address rows n ≤ run_low rows runs index) (rows_in rows runs')

-- a cursor over starts, and the number of those that were taken
pub record RowCursor : Type 0 where
  pub all : List Start
  pub taken : ℕ

-- a cursor at the first of the starts of all rows that cover addresses, in ascending order
pub record AreRowStarts (rows : List Row) (c : RowCursor) : Type 0 where
  pub permutation : IsPermutation (map (row_start rows) (covering_from 0 rows)) c.all
  pub rise : IsNonDecreasingBy (λ (s : Start). s.at) c.all
  pub first : c.taken ≡ 0

-- After the first `taken` rows of runs come the rows of `rest`, which is the rest of the run at an
-- index, and the rows of the runs after it. No row follows if the index is the number of runs.
pub record IsNextRow (rows : List Row) (runs : List Run) (index : ℕ) (rest : Run)
    (taken : ℕ) : Type 0 where
  pub few : length rows < 2 ^ 32
  pub fits : length (rows_in rows runs) < 2 ^ 32
  pub some : index < length runs → drop taken (rows_in rows runs)
      ≡ rows_of_run rows rest ++ rows_in rows (drop (index + 1) runs)
  pub none : length runs ≤ index → length (rows_in rows runs) ≤ taken

-- the start of the first row of a run
pub record IsStartOf (rows : List Row) (run : Run) (start : Start) : Type 0 where
  pub start_is : start ≡ row_start rows run.first
  pub few : run.first < 2 ^ 32
