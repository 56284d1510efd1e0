use Rattle.std.proofs.Common.{◌≡◌, ◌∙◌, ℕ, List, ap, sym, subst, take, arith, rules}
use Rattle.std.specs.List.Sorted.{IsNonDecreasingBy, IsPermutation}
use Rattle.std.proofs.lemmas.List.{take_all}
use Rattle.std.proofs.lemmas.List.Sorted.{IsNonDecreasingBy-from_sort_by_key}
use Rattle.std.proofs.lemmas.Result.{IfOk-weaker}
use Rattle.addr_table.specs.Private.RowOrder.{row_address}
use Rattle.addr_table.specs.Private.RowRuns.{rows_in}
use Rattle.addr_table.proofs.run_groups.merged.Goals as goal

pub returns : goal.returns
returns c =
    let rows = c.args.rows.now in
    let group = c.args.group.now in
    let sorted : List ℕ = c.sort_by_key.new.self.items in
    let all : take c.loop-index.index group ≡ group = take_all c.loop-index.index group
    (search (arith, c.loop-index-test.false, c.loop-index.auto.index-end)) in
    let order : c.loop-index.order.items ≡ rows_in rows group =
    c.loop-index.invariant ∙ ap (rows_in rows) all in
    let rise : IsNonDecreasingBy (row_address rows) sorted =
    IsNonDecreasingBy-from_sort_by_key (λ (n : ℕ). row_address rows n) _
    c.in_ok-sort_by_key.ensures.sorted (λ a r q k. search rules) in
    IfOk-weaker c.runs_of.result _ _ (λ runs is.
    let are : sorted ≡ rows_in rows runs.items = sym (is ∙ c.deref.ensures.value) in record {
      permutation = subst (λ ns. IsPermutation (rows_in rows group) ns) are
          (subst (λ ns. IsPermutation ns sorted) order
          c.in_ok-sort_by_key.ensures.permutation);
      rise = subst (λ ns. IsNonDecreasingBy (row_address rows) ns) are rise;
    }) c.runs_of.ensures
