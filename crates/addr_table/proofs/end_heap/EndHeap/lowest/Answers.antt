use Rattle.std.proofs.Common.{map, ap, refl, arith, inl, inr, ◌≤◌}
use Rattle.std.proofs.lemmas.Bool.{cases_lt, false≢true}
use Rattle.std.specs.BinaryHeap.{heap_items, heap_len}
use Rattle.addr_table.specs.Private.OpenEnds.{end_in}
use Rattle.addr_table.proofs.Endpoints.OpenEndLaws.{lowest-all, lowest-any, nothing}
use Rattle.addr_table.proofs.end_heap.EndHeap.lowest.Goals as goal

pub returns-in-Some : goal.returns-in-Some
returns-in-Some c =
    let x = c.in-Some.field-0.now in
    let items = heap_items c.self.inside.heap in
    rw (← c.self.view_is) (
      lowest-all x items (c.in-Some.ensures.greatest c.self.invariant),
      lowest-any x items
          (omega (arith, c.in-Some.ensures.variant.0 refl, c.self.inside.heap.data.ok.0))
          c.in-Some.ensures.lookup,
    )

pub returns-in-None : goal.returns-in-None
returns-in-None c =
    let empty : heap_len c.self.inside.heap ≤ 0 = elim (cases_lt 0 (heap_len c.self.inside.heap)) [
      | inl some ↦ absurd (false≢true (c.in-None.ensures.variant.1 some))
      | inr none ↦ none
    ] in
    rw (← c.self.view_is) (ap (map end_in) (nothing (heap_items c.self.inside.heap)
    (omega (arith, empty, c.self.inside.heap.data.ok.0))))
