use Rattle.std.proofs.Common.{◌∙◌, ◌<◌, ◌^◌, ◌++◌, List, map, ap, arith, rules}
use Rattle.addr_table.specs.Private.StartLists.{start_of_low}
use Rattle.std.proofs.lemmas.List.Sorted.{IsNonDecreasingBy-from_sort_by_key, All-permutation}
use Rattle.addr_table.specs.declared.starts.Start.{Start}
use Rattle.addr_table.specs.declared.low_starts.LowStart.{LowStart}
use Rattle.addr_table.proofs.Endpoints.StartListLaws.{low-sorted, low-rise, expanded-sorted}
use Rattle.addr_table.proofs.Endpoints.StartListLaws.{expanded-rise}
use Rattle.addr_table.proofs.start_list.StartList.sorted.Goals as goal

pub invariant_of-list : goal.invariant_of-list
invariant_of-list c =
    All-permutation (λ (l : LowStart). l.at < 2 ^ 32) _ _ c.sort.ensures.permutation
    c.list.invariant

pub returns-then-is_empty-clause-permutation : goal.returns-then-is_empty-clause-permutation
returns-then-is_empty-clause-permutation c =
    rw (← c.list.view_is) (low-sorted _ _ _ c.sort.ensures.permutation)

pub returns-then-is_empty-clause-rise : goal.returns-then-is_empty-clause-rise
returns-then-is_empty-clause-rise c =
    low-rise _ _ (search (arith, c.if-is_empty.true, c.is_empty.ensures)) c.in_ok-sort.ensures.rise

pub returns-clause-permutation : goal.returns-clause-permutation
returns-clause-permutation c =
    let high : List Start = c.list.inside.high.items in
    rw (← c.list.view_is)
    (expanded-sorted c.list.inside.low.items _ high _ _
    (c.in_ok-expand.ensures ∙ ap (λ low. high ++ map start_of_low low) c.deref.ensures.value)
    c.clear.ensures.items
    c.sort_unstable_by_key.ensures.permutation)

pub returns-clause-rise : goal.returns-clause-rise
returns-clause-rise c =
    expanded-rise _ _ c.clear.ensures.items
    (IsNonDecreasingBy-from_sort_by_key (λ (h : Start). h.at) _
    c.sort_unstable_by_key.ensures.sorted (λ a r q k. search rules))
