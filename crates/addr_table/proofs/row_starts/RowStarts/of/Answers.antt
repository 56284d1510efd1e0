use Rattle.std.proofs.Common.{◌≤◌, List, length, map, sym, subst}
use Rattle.std.proofs.Common.{arith, rules}
use Rattle.std.specs.List.Sorted.{IsPermutation, IsNonDecreasingBy}
use Rattle.std.proofs.lemmas.List.Sorted.{All-permutation, IsPermutation-map, IsPermutation-trans}
use Rattle.std.proofs.lemmas.List.Sorted.{IsNonDecreasingBy-from_sort_by_key, length_permutation}
use Rattle.addr_table.specs.declared.row_runs.Run.{Run}
use Rattle.addr_table.specs.declared.starts.Start.{Start}
use Rattle.addr_table.specs.Private.RowOrder.{covering_from, row_address, row_start}
use Rattle.addr_table.specs.Private.RowRuns.{Ascends, rows_in, rows_of_run}
use Rattle.addr_table.proofs.Endpoints.FlatPermutations.{flat-permutation}
use Rattle.addr_table.proofs.Endpoints.RowOrderLaws.{covering-few}
use Rattle.addr_table.proofs.Endpoints.RowStartLaws.{starts-rise}
use Rattle.addr_table.proofs.row_starts.RowStarts.of.Goals.{In_ok-runs-2}
use Rattle.addr_table.proofs.row_starts.RowStarts.of.Goals as goal

pub ordered-requires-clause-ascend : goal.ordered-requires-clause-ascend
ordered-requires-clause-ascend c =
    rw c.deref.ensures.value
    (All-permutation (Ascends c.args.rows.now) _ _ c.sort_unstable_by_key.ensures.permutation
    c.in_ok-runs.ensures.ascend)

pub ordered-requires-clause-rise : goal.ordered-requires-clause-rise
ordered-requires-clause-rise c =
    rw c.deref.ensures.value
    (IsNonDecreasingBy-from_sort_by_key (λ (run : Run). row_address c.args.rows.now run.first) _
    c.sort_unstable_by_key.ensures.sorted (λ a r q k. search rules))

-- all covering rows in another order
moved : (c : In_ok-runs-2) → IsPermutation (covering_from 0 c.args.rows.now)
    (rows_in c.args.rows.now c.in_ok-runs-2.runs.items)
moved c =
    let rows = c.args.rows.now in
    let sorted : IsPermutation (rows_in rows c.in_ok-runs.runs.items)
    (rows_in rows c.deref.result.now) =
    flat-permutation (rows_of_run rows) _ _ (rw c.deref.ensures.value
    c.sort_unstable_by_key.ensures.permutation) in
    subst (λ ns. IsPermutation ns (rows_in rows c.in_ok-runs-2.runs.items))
    c.in_ok-runs.ensures.all
    (IsPermutation-trans _ _ _ sorted c.in_ok-runs-2.ensures.permutation)

pub new-requires-clause-fits : goal.new-requires-clause-fits
new-requires-clause-fits c =
    let few : length (covering_from 0 c.args.rows.now) ≤ length c.args.rows.now =
    covering-few 0 c.args.rows.now in
    omega (arith, few, length_permutation _ _ (moved c), c.requires)

pub returns : goal.returns
returns c =
    let rows = c.args.rows.now in
    let start = row_start rows in
    let are = c.new.ensures.all in
    let Rises : List Start → Type 0 = λ starts. IsNonDecreasingBy (λ (s : Start). s.at) starts in
    record {
      permutation = subst (λ ss. IsPermutation (map start (covering_from 0 rows)) ss) (sym are)
          (IsPermutation-map start _ _ (moved (goal.at.returns c).In_ok-runs-2));
      rise = subst Rises (sym are) (starts-rise rows _ c.in_ok-runs-2.ensures.rise);
      first = c.new.ensures.taken;
    }
