-- Runs of several sequences in ascending order of address.
use Rattle.std.proofs.Common.{◌≡◌, ◌∙◌, ℕ, ◌+◌, ◌-◌, ◌<◌, ◌≤◌, List, [], ◌∷◌, ◌++◌, length}
use Rattle.std.proofs.Common.{get_or, take, drop, refl, ap, sym, subst, arith}
use Rattle.std.specs.List.{All, AllByRecursion}
use Rattle.std.specs.List.Sorted.{IsNonDecreasingBy, IsPermutation}
use Rattle.std.proofs.lemmas.Grind.{flat_map-append}
use Rattle.std.proofs.lemmas.List.{append-nil, get_or-drop, get_or-take, get_or_default}
use Rattle.std.proofs.lemmas.List.{length-take}
use Rattle.std.proofs.Math.Seq.{take-add}
use Rattle.std.proofs.lemmas.List.Elements.{All-append, All-from_recursion, recursion_from_All}
use Rattle.std.proofs.lemmas.List.Sorted.{All-permutation, IsPermutation-append, IsPermutation-refl}
use Rattle.dwarf_lines.specs.declared.row.Row.{Row}
use Rattle.addr_table.specs.declared.row_runs.Run.{Run}
use Rattle.addr_table.specs.Private.RowOrder.{row_address}
use Rattle.addr_table.specs.Private.RowRuns.{AppendsRows, AreMerged, AreOrderedTo, Ascends}
use Rattle.addr_table.specs.Private.RowRuns.{no_run, rows_in, rows_of_run, run_high, run_low}
use Rattle.addr_table.proofs.Scanning.Lists.{each-append}
use Rattle.addr_table.proofs.Endpoints.SequenceRunLaws.{rise-appended}

-- ---- one group

pub only-one : (group : List Run) → length group ≡ 1 → group ≡ get_or group 0 no_run ∷ []
only-one [] is = absurd (omega (arith, is))
only-one (run ∷ []) is = refl
only-one (run ∷ other ∷ runs) is = absurd (omega (arith, is))

-- a run alone
pub one-appended : (rows : List Row) (run : Run) (group old new : List Run) → group ≡ run ∷ []
    → new ≡ old ++ run ∷ [] → Ascends rows run → AppendsRows rows group old new
one-appended rows run group old new only is h =
    let rows_are : rows_in rows (run ∷ []) ≡ rows_of_run rows run =
    append-nil (rows_of_run rows run) in record {
      added = rows_of_run rows run;
      rows_are = ap (rows_in rows) is ∙ flat_map-append (rows_of_run rows) old (run ∷ [])
          ∙ ap (λ ns. rows_in rows old ++ ns) rows_are;
      permutation = subst (λ ns. IsPermutation ns (rows_of_run rows run))
          (sym (ap (rows_in rows) only ∙ rows_are)) (IsPermutation-refl _);
      rise = h.rise;
    }

-- merged runs
pub merged-appended : (rows : List Row) (group merged old new : List Run)
    → AreMerged rows group merged → new ≡ old ++ merged → AppendsRows rows group old new
merged-appended rows group merged old new h is = record {
  added = rows_in rows merged;
  rows_are = ap (rows_in rows) is ∙ flat_map-append (rows_of_run rows) old merged;
  permutation = h.permutation;
  rise = h.rise;
}

-- ---- all rows of some runs

rows-all : (P : ℕ → Type 0) (rows : List Row) (runs : List Run)
    → All (λ run. All P (rows_of_run rows run)) runs → All P (rows_in rows runs)
rows-all P rows runs h =
    All-from_recursion P (rows_in rows runs)
    (each runs (recursion_from_All (λ run. All P (rows_of_run rows run)) runs h))
  where
    each : (rs : List Run) → AllByRecursion (λ run. All P (rows_of_run rows run)) rs
        → AllByRecursion P (rows_in rows rs)
    each [] h = tt
    each (r ∷ rs) h =
        each-append P (rows_of_run rows r) (rows_in rows rs)
        (recursion_from_All P (rows_of_run rows r) h.0) (each rs h.1)

-- the rows of an ascending run are between the addresses of its first and its last row
run-above : (rows : List Row) (run : Run) (low : ℕ) → Ascends rows run
    → low ≤ row_address rows run.first → All (λ n. low ≤ row_address rows n) (rows_of_run rows run)
run-above rows run low h from i d lt =
    let up : row_address rows run.first ≤ row_address rows (get_or (rows_of_run rows run) i d) =
    h.rise 0 i d (omega arith) lt in omega (arith, from, up)

run-below : (rows : List Row) (run : Run) (high : ℕ) → Ascends rows run
    → row_address rows run.last ≤ high → All (λ n. row_address rows n ≤ high) (rows_of_run rows run)
run-below rows run high h to i d lt =
    let down : row_address rows (get_or (rows_of_run rows run) i d) ≤ row_address rows run.last =
    h.below i d lt in omega (arith, to, down)

-- ---- the runs of a group

abbrev pub group_of : List Run → ℕ → ℕ → List Run
group_of runs from end = take (end - from) (drop from runs)

in-group : (runs : List Run) (from end k : ℕ) (d : Run) → end ≤ length runs
    → k < length (group_of runs from end)
    → (from + k < end) × (get_or (group_of runs from end) k d ≡ get_or runs (from + k) no_run)
in-group runs from end k d le lt =
    let within : k < end - from = omega (arith, lt, length-take (end - from) (drop from runs)) in (
      omega (arith, within),
      get_or-take (end - from) (drop from runs) k d within ∙ get_or-drop from runs k d
          ∙ get_or_default runs (from + k) d no_run (omega (arith, within, le)),
    )

pub groups-more : (rows : List Row) (runs old new : List Run) (from end : ℕ)
    → AreOrderedTo rows runs from old → All (Ascends rows) runs
    → IsNonDecreasingBy (λ (run : Run). row_address rows run.first) runs → from < length runs
    → (from < end) × (end ≤ length runs)
    → (end < length runs → (k : ℕ) → from ≤ k → k < end
    → run_high rows runs k ≤ run_low rows runs end)
    → AppendsRows rows (group_of runs from end) old new → AreOrderedTo rows runs end new
groups-more rows runs old new from end h ascend rise lt bounds split a = record {
  within = bounds.1;
  merged = record {
    permutation = subst (λ ns. IsPermutation ns (rows_in rows new)) (sym all)
        (subst (λ ns. IsPermutation (rows_in rows (take from runs) ++ rows_in rows group) ns)
        (sym a.rows_are)
        (IsPermutation-append _ _ _ _ h.merged.permutation a.permutation));
    rise = subst (λ ns. IsNonDecreasingBy (row_address rows) ns) (sym a.rows_are)
        (rise-appended (row_address rows) (run_low rows runs from) (rows_in rows old) a.added
        h.merged.rise a.rise (h.below lt)
        (All-permutation (λ n. run_low rows runs from ≤ row_address rows n) (rows_in rows group)
        a.added a.permutation above));
  };
  below = λ more.
      let up : run_low rows runs from ≤ run_low rows runs end =
      rise from end no_run (omega (arith, bounds.0)) more in
      subst (λ ns. All (λ n. row_address rows n ≤ run_low rows runs end) ns) (sym a.rows_are)
      (All-append (λ n. row_address rows n ≤ run_low rows runs end) (rows_in rows old) a.added
      (λ i d le.
      let low : row_address rows (get_or (rows_in rows old) i d) ≤ run_low rows runs from =
      h.below lt i d le in omega (arith, low, up))
      (All-permutation (λ n. row_address rows n ≤ run_low rows runs end) (rows_in rows group)
      a.added a.permutation (below more)));
}
  where
    group : List Run
    group = group_of runs from end

    all : rows_in rows (take end runs) ≡ rows_in rows (take from runs) ++ rows_in rows group
    all =
        let sum : from + (end - from) ≡ end = omega (arith, bounds.0) in
        ap (λ n. rows_in rows (take n runs)) (sym sum)
        ∙ ap (rows_in rows) (take-add from (end - from) runs)
        ∙ flat_map-append (rows_of_run rows) (take from runs) group

    above : All (λ n. run_low rows runs from ≤ row_address rows n) (rows_in rows group)
    above = rows-all (λ n. run_low rows runs from ≤ row_address rows n) rows group (λ k d le.
        let at = in-group runs from end k d bounds.1 le in
        let here : from + k < length runs = omega (arith, at.0, bounds.1) in
        subst (λ (run : Run). All (λ n. run_low rows runs from ≤ row_address rows n)
        (rows_of_run rows run)) (sym at.1)
        (run-above rows (get_or runs (from + k) no_run) (run_low rows runs from)
        (ascend (from + k) no_run here) (rise from (from + k) no_run (omega arith) here)))

    below : end < length runs
        → All (λ n. row_address rows n ≤ run_low rows runs end) (rows_in rows group)
    below more = rows-all (λ n. row_address rows n ≤ run_low rows runs end) rows group (λ k d le.
        let at = in-group runs from end k d bounds.1 le in
        let here : from + k < length runs = omega (arith, at.0, bounds.1) in
        subst (λ (run : Run). All (λ n. row_address rows n ≤ run_low rows runs end)
        (rows_of_run rows run)) (sym at.1)
        (run-below rows (get_or runs (from + k) no_run) (run_low rows runs end)
        (ascend (from + k) no_run here) (split more (from + k) (omega arith) at.0)))
