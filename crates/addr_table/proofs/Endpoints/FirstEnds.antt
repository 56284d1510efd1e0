-- Some ends, and one outside them.
use Rattle.std.proofs.Common.{◌≡◌, ℕ, ◌<◌, ◌≤◌, List, [], ◌∷◌, ap}
use Rattle.std.specs.Prelude.{Option, Some, None, IfSome, MatchOption}
use Rattle.std.specs.List.{All}
use Rattle.std.specs.List.Sorted.{IsPermutation}
use Rattle.std.proofs.lemmas.List.Elements.{All-from_recursion, recursion_from_All}
use Rattle.std.proofs.lemmas.List.Sorted.{IsPermutation-refl, IsPermutation-trans}
use Rattle.std.proofs.lemmas.List.Sorted.{IsPermutation-append_comm}
use Rattle.std.proofs.lemmas.List.Sorted.{IsPermutation-append_left, IsPermutation-append_right}
use Rattle.addr_table.specs.declared.open_ends.End.{End}
use Rattle.addr_table.specs.Private.OpenEnds.{ends_with}

-- two ends exchanged
exchanged : (x y : End) (ends : List End) → IsPermutation (x ∷ y ∷ ends) (y ∷ x ∷ ends)
exchanged x y ends =
    IsPermutation-append_left ends (x ∷ y ∷ []) (y ∷ x ∷ [])
    (IsPermutation-append_comm (x ∷ []) (y ∷ []))

-- ---- one more end

pub heap-more : (o : Option End) (end : End) (heap heap' : List End)
    → IsPermutation (end ∷ heap) heap'
    → IsPermutation (end ∷ ends_with o heap) (ends_with o heap')
heap-more None end heap heap' more = more
heap-more (Some first) end heap heap' more =
    IsPermutation-trans _ _ _ (exchanged end first heap)
    (IsPermutation-append_right (first ∷ []) (end ∷ heap) heap' more)

-- ---- an end taken

-- the first end
pub first-taken : (o : Option End) (first : End) (heap : List End) → o ≡ Some first
    → IsPermutation (ends_with o heap) (first ∷ heap)
first-taken o first heap is = rw is (IsPermutation-refl (first ∷ heap))

-- an end of the heap, or none: then all ends are above an address
abbrev pub Taken : ℕ → List End → List End → Option ℕ → Type 0
Taken end old new result = MatchOption result ((new ≡ old) × All (λ (e : End). end < e.at) old)
    (λ key. (at : ℕ) × (at ≤ end) × IsPermutation old (record { at = at; key = key } ∷ new))

pub heap-taken : (end : ℕ) (o : Option End) (old new : List End) (result : Option ℕ)
    → IfSome o (λ first. end < first.at) → Taken end old new result
    → Taken end (ends_with o old) (ends_with o new) result
heap-taken end None old new result above h = h
heap-taken end (Some first) old new None above h = (
  ap (λ ends. first ∷ ends) h.0,
  All-from_recursion (λ (e : End). end < e.at) (first ∷ old) (
    above,
    recursion_from_All (λ (e : End). end < e.at) old h.1,
  ),
)
heap-taken end (Some first) old new (Some key) above h = (
  h.0,
  h.1,
  IsPermutation-trans _ _ _
      (IsPermutation-append_right (first ∷ []) old (record { at = h.0; key = key } ∷ new) h.2)
      (exchanged first (record { at = h.0; key = key }) new),
)
