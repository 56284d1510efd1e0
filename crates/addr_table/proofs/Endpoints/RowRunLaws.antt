-- Runs of rows that cover addresses.
use Rattle.std.proofs.Common.{◌≡◌, ℕ, suc, ◌+◌, ◌<◌, ◌≤◌, List, [], ◌∷◌, ◌++◌, length, drop}
use Rattle.std.proofs.Common.{get_or, Bool, true, false, cond, refl, ap, sym, ◌∙◌, inl, inr, arith}
use Rattle.std.specs.Prelude.{nat_lt, nat_le, filter}
use Rattle.std.proofs.lemmas.Bool.{cases_lt}
use Rattle.std.proofs.lemmas.Bool.Decides.{nat_tests}
use Rattle.std.proofs.lemmas.Grind.{flat_map-append}
use Rattle.std.proofs.lemmas.List.{append_assoc, append-nil, drop_more}
use Rattle.std.proofs.lemmas.List.Elements.{filter-append}
use Rattle.dwarf_lines.specs.declared.row.Row.{Row}
use Rattle.addr_table.specs.declared.row_runs.Run.{Run}
use Rattle.addr_table.specs.Private.RowOrder.{sequence_from, sequence_at}
use Rattle.addr_table.specs.Private.RowRuns.{Follows, IsRun, later_rows, rows_in, rows_of_run}

abbrev up_to : ℕ → List ℕ → List ℕ
up_to last ns = filter (λ n. nat_le n last) ns

-- the first of some numbers, if it is in range or not
first-in : (last n : ℕ) (ns : List ℕ) → n ≤ last → up_to last (n ∷ ns) ≡ n ∷ up_to last ns
first-in last n ns le =
    let test : nat_le n last ≡ true = grind (arith, nat_tests) in
    ap (λ b. cond b (n ∷ up_to last ns) (up_to last ns)) test

first-over : (last n : ℕ) (ns : List ℕ) → last < n → up_to last (n ∷ ns) ≡ up_to last ns
first-over last n ns lt =
    let test : nat_le n last ≡ false = grind (arith, nat_tests) in
    ap (λ b. cond b (n ∷ up_to last ns) (up_to last ns)) test

-- the rows of a sequence are at or after the row that it is read from
none-before : (last n : ℕ) (rows : List Row) → last < n → up_to last (sequence_from n rows) ≡ []
none-before last n [] lt = refl
none-before last n (row ∷ []) lt = refl
none-before last n (row ∷ next ∷ rows) lt =
    by_end row.«end» (none-before last (suc n) (next ∷ rows) (omega (arith, lt)))
  where
    rest : List ℕ
    rest = sequence_from (suc n) (next ∷ rows)

    by_order : (t : Bool) → up_to last rest ≡ [] → up_to last (cond t (n ∷ rest) rest) ≡ []
    by_order true none = first-over last n rest lt ∙ none
    by_order false none = none

    by_end : (e : Bool) → up_to last rest ≡ []
        → up_to last (cond e [] (cond (nat_lt row.address next.address) (n ∷ rest) rest)) ≡ []
    by_end true none = refl
    by_end false none = by_order (nat_lt row.address next.address) none

none-at : (rows : List Row) (last n : ℕ) → last < n → up_to last (sequence_at rows n) ≡ []
none-at rows last n lt = none-before last n (drop n rows) lt

-- the next row of a sequence is after the row that it follows
follows-after : (rows : List Row) (last row : ℕ) → Follows rows last row → last < row
follows-after rows last row is = elim (cases_lt last row) [
  | inl lt ↦ lt
  | inr le ↦
      let none = sym (first-in last row (sequence_at rows (row + 1)) (omega (arith, le)))
      ∙ ap (up_to last) (sym is) ∙ none-at rows last (last + 1) (omega arith) in
      let full : row ∷ up_to last (sequence_at rows (row + 1)) ≡ [] = none in
      cc full
]

up-to-twice : (low high : ℕ) (ns : List ℕ) → low ≤ high → up_to high (up_to low ns) ≡ up_to low ns
up-to-twice low high [] le = refl
up-to-twice low high (n ∷ ns) le = elim (cases_lt low n) [
  | inl over ↦
      ap (up_to high) (first-over low n ns over) ∙ up-to-twice low high ns le
      ∙ sym (first-over low n ns over)
  | inr le_low ↦
      ap (up_to high) (first-in low n ns (omega (arith, le_low)))
      ∙ first-in high n (up_to low ns) (omega (arith, le_low, le))
      ∙ ap (λ ms. n ∷ ms) (up-to-twice low high ns le)
      ∙ sym (first-in low n ns (omega (arith, le_low)))
]

-- ---- the rest of a run

pub rest-over : (rows : List Row) (run : Run) (n : ℕ) → Follows rows run.first n → run.last < n
    → later_rows rows run ≡ []
rest-over rows run n is over =
    ap (up_to run.last) is ∙ first-over run.last n _ over
    ∙ none-at rows run.last (n + 1) (omega (arith, over))

pub rest-some : (rows : List Row) (run : Run) (n : ℕ) → Follows rows run.first n → n ≤ run.last
    → later_rows rows run ≡ n ∷ later_rows rows (record { first = n; last = run.last })
rest-some rows run n is le = ap (up_to run.last) is ∙ first-in run.last n _ le

-- ---- one more row

pub one-row : (rows : List Row) (n : ℕ) → later_rows rows (record { first = n; last = n }) ≡ []
one-row rows n = none-at rows n (n + 1) (omega arith)

pub one-row_is : (rows : List Row) (n : ℕ) → IsRun rows (record { first = n; last = n })
one-row_is rows n = ap (λ ns. ns ++ sequence_at rows (n + 1)) (sym (one-row rows n))

-- a run that is extended by the next row of its sequence
pub row-appended : (rows : List Row) (run : Run) (n : ℕ) → IsRun rows run
    → Follows rows run.last n
    → later_rows rows (record { first = run.first; last = n }) ≡ later_rows rows run ++ n ∷ []
row-appended rows run n h is =
    let after = follows-after rows run.last n is in
    let later : List ℕ = later_rows rows run in
    ap (up_to n) (h ∙ ap (λ ns. later ++ ns) is)
    ∙ filter-append (λ m. nat_le m n) later (n ∷ sequence_at rows (n + 1))
    ∙ ap (λ ns. ns ++ up_to n (n ∷ sequence_at rows (n + 1)))
    (up-to-twice run.last n (sequence_at rows (run.first + 1)) (omega (arith, after)))
    ∙ ap (λ ns. later ++ ns)
    (first-in n n (sequence_at rows (n + 1)) (omega arith)
    ∙ ap (λ ns. n ∷ ns) (none-at rows n (n + 1) (omega arith)))

-- a run whose last row is replaced by the next one, which covers no address
pub rows-same : (rows : List Row) (run : Run) → IsRun rows run
    → sequence_at rows (run.last + 1) ≡ sequence_at rows (run.last + 1 + 1)
    → later_rows rows (record { first = run.first; last = run.last + 1 }) ≡ later_rows rows run
rows-same rows run h passed =
    let last : ℕ = run.last + 1 in
    let later : List ℕ = later_rows rows run in
    ap (up_to last) (h ∙ ap (λ ns. later ++ ns) passed)
    ∙ filter-append (λ m. nat_le m last) later (sequence_at rows (last + 1))
    ∙ ap (λ ns. ns ++ up_to last (sequence_at rows (last + 1)))
    (up-to-twice run.last last (sequence_at rows (run.first + 1)) (omega arith))
    ∙ ap (λ ns. later ++ ns) (none-at rows last (last + 1) (omega arith))
    ∙ append-nil later

pub extended-is : (rows : List Row) (run : Run) (n : ℕ) → IsRun rows run
    → Follows rows run.last n → IsRun rows (record { first = run.first; last = n })
extended-is rows run n h is =
    h ∙ ap (λ ns. later_rows rows run ++ ns) is
    ∙ sym (append_assoc (later_rows rows run) (n ∷ []) (sequence_at rows (n + 1)))
    ∙ ap (λ ns. ns ++ sequence_at rows (n + 1)) (sym (row-appended rows run n h is))

-- ---- the runs of an order

-- some runs, the last of which may be extended, and the order from an index on
abbrev pub AreRunsTo : List Row → List ℕ → ℕ → List Run → Run → Type 0
AreRunsTo rows order index runs run =
    (rows_in rows runs ++ (rows_of_run rows run ++ drop index order) ≡ order) × IsRun rows run

-- a run of one row, in front of the order after it
one-in-front : (rows : List Row) (order : List ℕ) (index n : ℕ) → index < length order
    → n ≡ get_or order index 0
    → rows_of_run rows (record { first = n; last = n }) ++ drop (index + 1) order
    ≡ drop index order
one-in-front rows order index n lt is =
    ap (λ ns. n ∷ (ns ++ drop (index + 1) order)) (one-row rows n)
    ∙ ap (λ m. m ∷ drop (index + 1) order) is
    ∙ sym (drop_more order index 0 lt)

pub runs-begin : (rows : List Row) (order : List ℕ) (runs : List Run) → runs ≡ []
    → 0 < length order
    → AreRunsTo rows order 1 runs (record { first = get_or order 0 0; last = get_or order 0 0 })
runs-begin rows order runs none lt =
    let first : ℕ = get_or order 0 0 in
    let run : Run = record { first = first; last = first } in (
      ap (λ rs. rows_in rows rs ++ (rows_of_run rows run ++ drop 1 order)) none
          ∙ one-in-front rows order 0 first lt refl,
      one-row_is rows first,
    )

pub run-extended : (rows : List Row) (order : List ℕ) (index n : ℕ) (runs : List Run) (run : Run)
    → index < length order → n ≡ get_or order index 0 → Follows rows run.last n
    → AreRunsTo rows order index runs run
    → AreRunsTo rows order (index + 1) runs (record { first = run.first; last = n })
run-extended rows order index n runs run lt is next h =
    let seen : List ℕ = rows_in rows runs in
    let later : List ℕ = later_rows rows run in
    let rest : List ℕ = drop (index + 1) order in (
      ap (λ ns. seen ++ (run.first ∷ (ns ++ rest))) (row-appended rows run n h.1 next)
          ∙ ap (λ ns. seen ++ (run.first ∷ ns)) (append_assoc later (n ∷ []) rest)
          ∙ ap (λ m. seen ++ (run.first ∷ (later ++ m ∷ rest))) is
          ∙ ap (λ ns. seen ++ (rows_of_run rows run ++ ns)) (sym (drop_more order index 0 lt))
          ∙ h.0,
      extended-is rows run n h.1 next,
    )

pub run-ended : (rows : List Row) (order : List ℕ) (index n : ℕ) (old new : List Run) (run : Run)
    → index < length order → n ≡ get_or order index 0 → new ≡ old ++ run ∷ []
    → AreRunsTo rows order index old run
    → AreRunsTo rows order (index + 1) new (record { first = n; last = n })
run-ended rows order index n old new run lt is more h =
    let seen : List ℕ = rows_in rows old in
    let one : List ℕ = rows_of_run rows run in
    let after : List ℕ = drop index order in (
      ap (λ ns. rows_in rows new ++ ns) (one-in-front rows order index n lt is)
          ∙ ap (λ rs. rows_in rows rs ++ after) more
          ∙ ap (λ ns. ns ++ after) (flat_map-append (rows_of_run rows) old (run ∷ [])
          ∙ ap (λ ns. seen ++ ns) (append-nil one))
          ∙ append_assoc seen one after
          ∙ h.0,
      one-row_is rows n,
    )
