-- Ends in a stack and in a heap, and one outside them.
use Rattle.std.specs.Prelude.{◌≡◌, ℕ, ◌≤◌, ◌<◌, ◌==◌, true, List, ◌∷◌, Option, Some, None}
use Rattle.std.specs.Prelude.{length, slice_index_or}
use Rattle.std.specs.List.{All, list_any}
use Rattle.std.specs.BinaryHeap.{IsHeap}
use Rattle.std.specs.Ordering.{nat_cmp, ordering_then}
use Rattle.std.specs.declared.cmp.Ordering.{Ordering}
use Rattle.std.specs.declared.cmp.Reverse.{Reverse}
use Rattle.addr_table.specs.declared.open_ends.End.{End}

-- the end that an item of the heap represents; the item has its address first
abbrev pub end_in : Reverse (ℕ × ℕ) → End
end_in item = record { at = item.0.0; key = item.0.1 }

-- the order of the heap, whose greatest item is a lowest end
abbrev pub higher_first : Reverse (ℕ × ℕ) → Reverse (ℕ × ℕ) → Ordering
higher_first x y = ordering_then (nat_cmp y.0.0 x.0.0) (nat_cmp y.0.1 x.0.1)

abbrev pub IsEndHeap : List (Reverse (ℕ × ℕ)) → Type 0
IsEndHeap items = IsHeap higher_first items

-- no end of a stack is above an end before it
abbrev pub IsStack : List End → Type 0
IsStack ends = (i j : ℕ) (d : End) → i ≤ j → j < length ends
    → (slice_index_or ends j d).at ≤ (slice_index_or ends i d).at

-- some ends and the one outside them, if there is one
abbrev pub ends_with : Option End → List End → List End
ends_with None ends = ends
ends_with (Some first) ends = first ∷ ends

-- the lowest address of an end
abbrev pub IsLowest : List End → ℕ → Type 0
IsLowest ends at =
    All (λ (e : End). at ≤ e.at) ends × (list_any (λ e. e.at == at) ends ≡ true)
