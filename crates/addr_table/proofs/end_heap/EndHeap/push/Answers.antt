use Rattle.std.proofs.Common.{◌∷◌, ℕ, subst, map}
use Rattle.std.specs.BinaryHeap.{heap_items}
use Rattle.std.specs.List.Sorted.{IsPermutation}
use Rattle.std.proofs.lemmas.List.Sorted.{IsPermutation-map}
use Rattle.addr_table.specs.Private.OpenEnds.{end_in}
use Rattle.addr_table.proofs.end_heap.EndHeap.push.Goals as goal

pub returns : goal.returns
returns c =
    let P : ℕ → Type 0 = λ key. IsPermutation
    (record { at = c.args.end.at; key = key } ∷ map end_in (heap_items c.self.inside.heap))
    (map end_in (heap_items c.push.new.self)) in
    rw (← c.self.view_is)
    (subst P c.narrow.ensures (IsPermutation-map end_in _ _ c.in_ok-push.ensures.permutation))
