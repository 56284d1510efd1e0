use Rattle.std.proofs.Common.{sym, subst, arith, ◌≡◌, List, true}
use Rattle.std.specs.Prelude.{◌==◌}
use Rattle.std.specs.List.{list_any}
use Rattle.std.specs.BinaryHeap.{heap_items}
use Rattle.std.proofs.lemmas.List.Sorted.{IsPermutation-map}
use Rattle.addr_table.specs.declared.open_ends.End.{End}
use Rattle.addr_table.specs.Private.OpenEnds.{end_in}
use Rattle.addr_table.proofs.Endpoints.OpenEndLaws.{taken-low}
use Rattle.addr_table.proofs.end_heap.EndHeap.take_up_to.Goals as goal

pub returns : goal.returns
returns c =
    let x = c.in_ok-key.field-0 in
    let items = heap_items c.self.inside.heap in
    let A : List End → Type 0 = λ es. list_any (λ e. e.at == c.in_ok-at.at) es ≡ true in
    rw (← c.self.view_is) (
      x.0.0,
      taken-low x items c.in_ok-at.at c.args.end
          (c.in_ok-key.ensures.heap_order c.self.invariant).1
          (subst A (sym c.self.view_is) c.in_ok-at.ensures.1)
          (omega (arith, c.if-at-end.false)),
      IsPermutation-map end_in _ _ c.in_ok-key.ensures.permutation,
    )
