-- Ends in a stack and in a heap.
use Rattle.std.proofs.Common.{◌≡◌, ◌∙◌, ℕ, ◌<◌, ◌≤◌, List, [], ◌∷◌, ◌++◌, length, get_or}
use Rattle.std.proofs.Common.{Bool, true, false, ◌-◌, ◌||◌, min, ap, sym, subst, refl, inl}
use Rattle.std.proofs.Common.{inr, arith}
use Rattle.std.specs.Prelude.{◌==◌, Option, Some, None}
use Rattle.std.specs.List.{All, list_any}
use Rattle.std.specs.List.Sorted.{IsPermutation}
use Rattle.std.proofs.lemmas.Bool.{cases_lt}
use Rattle.std.proofs.lemmas.Bool.Decides.{nat_tests}
use Rattle.std.proofs.lemmas.List.{append_assoc, get_or_default}
use Rattle.std.proofs.lemmas.List.Elements.{All-append, All-nil}
use Rattle.std.proofs.lemmas.List.Folds.{list_any-append, list_any_at}
use Rattle.std.proofs.lemmas.List.Sorted.{IsPermutation-middle, IsPermutation-sym}
use Rattle.std.proofs.lemmas.List.Sorted.{IsPermutation-trans, IsPermutation-append_right}
use Rattle.addr_table.specs.declared.open_ends.End.{End}
use Rattle.addr_table.specs.Private.OpenEnds.{IsLowest, IsStack}
use Rattle.addr_table.proofs.Endpoints.FirstEnds.{Taken}

-- ---- one more end

pub stack-added : (end : End) (stack heap : List End)
    → IsPermutation (end ∷ (stack ++ heap)) ((stack ++ end ∷ []) ++ heap)
stack-added end stack heap =
    subst (λ ends. IsPermutation (end ∷ (stack ++ heap)) ends)
    (sym (append_assoc stack (end ∷ []) heap))
    (IsPermutation-sym _ _ (IsPermutation-middle stack end heap))

pub heap-added : (end : End) (stack heap heap' : List End) → IsPermutation (end ∷ heap) heap'
    → IsPermutation (end ∷ (stack ++ heap)) (stack ++ heap')
heap-added end stack heap heap' more =
    IsPermutation-trans _ _ _ (IsPermutation-sym _ _ (IsPermutation-middle stack end heap))
    (IsPermutation-append_right stack (end ∷ heap) heap' more)

-- ---- an end taken

pub stack-taken : (end : End) (old stack heap : List End) → old ≡ stack ++ end ∷ []
    → IsPermutation (old ++ heap) (end ∷ (stack ++ heap))
stack-taken end old stack heap is =
    subst (λ ends. IsPermutation ends (end ∷ (stack ++ heap)))
    (sym (ap (λ ends. ends ++ heap) is ∙ append_assoc stack (end ∷ []) heap))
    (IsPermutation-middle stack end heap)

pub heap-taken : (end : ℕ) (stack stack' old new : List End) (result : Option ℕ)
    → stack' ≡ stack → All (λ (e : End). end < e.at) stack → Taken end old new result
    → Taken end (stack ++ old) (stack' ++ new) result
heap-taken end stack stack' old new None same above h = (
  ap (λ ends. ends ++ new) same ∙ ap (λ ends. stack ++ ends) h.0,
  All-append (λ (e : End). end < e.at) stack old above h.1,
)
heap-taken end stack stack' old new (Some key) same above h = (
  h.0,
  h.1,
  subst (λ ends. IsPermutation (stack ++ old) (record { at = h.0; key = key } ∷ (ends ++ new)))
      (sym same) (IsPermutation-trans _ _ _
      (IsPermutation-append_right stack old (record { at = h.0; key = key } ∷ new) h.2)
      (IsPermutation-middle stack (record { at = h.0; key = key }) new)),
)

-- ---- the lowest end

-- an address at or below the last end of a stack, which is its lowest one
pub stack-below : (stack : List End) (last : End) (at : ℕ) → IsStack stack
    → (0 < length stack) → last ≡ get_or stack (length stack - 1) last → at ≤ last.at
    → All (λ (e : End). at ≤ e.at) stack
stack-below stack last at h some is le i d lt =
    let low : (get_or stack (length stack - 1) d).at ≤ (get_or stack i d).at =
    h i (length stack - 1) d (omega (arith, lt)) (omega (arith, some)) in
    let same : get_or stack (length stack - 1) d ≡ last =
    get_or_default stack (length stack - 1) d last (omega (arith, some)) ∙ sym is in
    omega (arith, low, ap (λ (e : End). e.at) same, le)

abbrev no_end : End
no_end = record { at = 0; key = 0 }

-- the lowest end of a stack is an end at its address
last-at : (stack : List End) (at : ℕ) → 0 < length stack
    → ((d : End) → (get_or stack (length stack - 1) d).at ≡ at)
    → list_any (λ e. e.at == at) stack ≡ true
last-at stack at some is =
    let here : (get_or stack (length stack - 1) no_end).at ≡ at = is no_end in
    let test : ((get_or stack (length stack - 1) no_end).at == at) ≡ true =
    grind (arith, nat_tests) in
    list_any_at (λ (e : End). e.at == at) stack (length stack - 1) no_end (omega (arith, some)) test

-- an end of the stack is the lowest end
lowest-nested : (stack heap : List End) (at : ℕ) → 0 < length stack
    → All (λ (e : End). at ≤ e.at) stack
    → ((d : End) → (get_or stack (length stack - 1) d).at ≡ at)
    → All (λ (e : End). at ≤ e.at) heap → IsLowest (stack ++ heap) at
lowest-nested stack heap at some all is others = (
  All-append (λ (e : End). at ≤ e.at) stack heap all others,
  list_any-append (λ (e : End). e.at == at) stack heap
      ∙ ap (λ b. b || list_any (λ (e : End). e.at == at) heap) (last-at stack at some is),
)

-- an end of the heap is the lowest end
lowest-heaped : (stack heap : List End) (at : ℕ) → All (λ (e : End). at ≤ e.at) stack
    → IsLowest heap at → IsLowest (stack ++ heap) at
lowest-heaped stack heap at all h = (
  All-append (λ (e : End). at ≤ e.at) stack heap all h.0,
  list_any-append (λ (e : End). e.at == at) stack heap
      ∙ ap (λ b. list_any (λ (e : End). e.at == at) stack || b) h.1
      ∙ or-true (list_any (λ (e : End). e.at == at) stack),
)
  where
    or-true : (b : Bool) → (b || true) ≡ true
    or-true true = refl
    or-true false = refl

-- the lower of the lowest end of the stack and the lowest end of the heap
pub lowest-both : (stack heap : List End) (nested at low : ℕ) → low ≡ min nested at
    → 0 < length stack → All (λ (e : End). nested ≤ e.at) stack
    → ((d : End) → (get_or stack (length stack - 1) d).at ≡ nested)
    → IsLowest heap at → IsLowest (stack ++ heap) low
lowest-both stack heap nested at low is some all last h = elim (cases_lt at nested) [
  | inl lt ↦
      let same : low ≡ at = omega (arith, is, lt) in
      rw same (lowest-heaped stack heap at (λ i d within.
      let le : nested ≤ (get_or stack i d).at = all i d within in omega (arith, le, lt)) h)
  | inr le ↦
      let same : low ≡ nested = omega (arith, is, le) in
      rw same (lowest-nested stack heap nested some all last (λ i d within.
      let other : at ≤ (get_or heap i d).at = h.0 i d within in omega (arith, other, le)))
]

-- the heap is empty
pub lowest-alone : (stack heap : List End) (nested : ℕ) → heap ≡ []
    → 0 < length stack → All (λ (e : End). nested ≤ e.at) stack
    → ((d : End) → (get_or stack (length stack - 1) d).at ≡ nested)
    → IsLowest (stack ++ heap) nested
lowest-alone stack heap nested none some all last =
    lowest-nested stack heap nested some all last
    (rw none (All-nil (λ (e : End). nested ≤ e.at)))
