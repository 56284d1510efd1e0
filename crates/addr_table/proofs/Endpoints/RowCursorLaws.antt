-- A cursor over the starts of rows.
use Rattle.std.proofs.Common.{◌≡◌, ◌∙◌, ℕ, ◌+◌, ◌<◌, ◌≤◌, ◌^◌, List, [], ◌++◌, length}
use Rattle.std.proofs.Common.{map, drop, get_or, ap, sym, arith, inl, inr}
use Rattle.std.proofs.lemmas.Bool.{cases_lt}
use Rattle.std.proofs.lemmas.List.{drop_more, drop_all, length-drop, length-map, get_or-map}
use Rattle.dwarf_lines.specs.declared.row.Row.{Row}
use Rattle.addr_table.specs.declared.starts.Start.{Start}
use Rattle.addr_table.specs.declared.row_runs.Run.{Run}
use Rattle.addr_table.specs.Private.RowOrder.{row_start}
use Rattle.addr_table.specs.Private.RowRuns.{IsNextRow, later_rows, no_run, rows_in, rows_of_run}
use Rattle.addr_table.proofs.Scanning.Lists.{in-front}

-- the next rows are those of the run at an index
pub run-entered : (rows : List Row) (runs : List Run) (index : ℕ) (rest : Run) (taken : ℕ)
    → length rows < 2 ^ 32 → length (rows_in rows runs) < 2 ^ 32 → rest ≡ get_or runs index no_run
    → drop taken (rows_in rows runs) ≡ rows_in rows (drop index runs)
    → IsNextRow rows runs index rest taken
run-entered rows runs index rest taken few fits is left = record {
  few = few;
  fits = fits;
  some = λ lt. left ∙ ap (rows_in rows) (drop_more runs index no_run lt)
      ∙ ap (λ run. rows_of_run rows run ++ rows_in rows (drop (index + 1) runs)) (sym is);
  none = λ ge.
      let over : drop taken (rows_in rows runs) ≡ [] =
      left ∙ ap (rows_in rows) (drop_all index runs ge) in
      let none : length (drop taken (rows_in rows runs)) ≡ 0 = ap length over in
      omega (arith, none, length-drop taken (rows_in rows runs));
}

-- a run is left if a row is
pub run-left : (rows : List Row) (runs : List Run) (index : ℕ) (rest : Run) (taken : ℕ)
    → IsNextRow rows runs index rest taken → taken < length (rows_in rows runs)
    → index < length runs
run-left rows runs index rest taken h lt = elim (cases_lt index (length runs)) [
  | inl within ↦ within
  | inr over ↦
      let none : length (rows_in rows runs) ≤ taken = h.none over in absurd (omega arith)
]

-- the next row, and the rows after it
after-next : (rows : List Row) (runs : List Run) (index : ℕ) (rest : Run) (taken : ℕ)
    → IsNextRow rows runs index rest taken → index < length runs
    → (taken < length (rows_in rows runs)) × (get_or (rows_in rows runs) taken 0 ≡ rest.first)
    × (drop (taken + 1) (rows_in rows runs)
    ≡ later_rows rows rest ++ rows_in rows (drop (index + 1) runs))
after-next rows runs index rest taken h lt = in-front _ taken rest.first _ 0 (h.some lt)

-- one more row of the run
pub row-taken : (rows : List Row) (runs : List Run) (index : ℕ) (rest next : Run) (taken : ℕ)
    → IsNextRow rows runs index rest taken → index < length runs
    → later_rows rows rest ≡ rows_of_run rows next
    → IsNextRow rows runs index next (taken + 1)
row-taken rows runs index rest next taken h lt is = record {
  few = h.few;
  fits = h.fits;
  some = λ within. (after-next rows runs index rest taken h lt).2
      ∙ ap (λ ns. ns ++ rows_in rows (drop (index + 1) runs)) is;
  none = λ ge. absurd (omega (arith, lt, ge));
}

-- the last row of the run
pub run-taken : (rows : List Row) (runs : List Run) (index : ℕ) (rest next : Run) (taken : ℕ)
    → IsNextRow rows runs index rest taken → index < length runs
    → next ≡ get_or runs (index + 1) no_run → later_rows rows rest ≡ []
    → IsNextRow rows runs (index + 1) next (taken + 1)
run-taken rows runs index rest next taken h lt is none =
    run-entered rows runs (index + 1) next (taken + 1) h.few h.fits is
    ((after-next rows runs index rest taken h lt).2
    ∙ ap (λ ns. ns ++ rows_in rows (drop (index + 1) runs)) none)

-- the start of the next row
pub start-next : (rows : List Row) (runs : List Run) (index : ℕ) (rest : Run) (taken : ℕ)
    → IsNextRow rows runs index rest taken → index < length runs
    → (taken < length (map (row_start rows) (rows_in rows runs)))
    × ((d : Start) → row_start rows rest.first
    ≡ get_or (map (row_start rows) (rows_in rows runs)) taken d)
start-next rows runs index rest taken h lt =
    let all : List ℕ = rows_in rows runs in
    let next = after-next rows runs index rest taken h lt in
    let within : taken < length all = next.0 in (
      omega (arith, within, length-map all (row_start rows)),
      λ d. ap (row_start rows) (sym next.1)
          ∙ sym (get_or-map (row_start rows) all taken 0 d within),
    )
