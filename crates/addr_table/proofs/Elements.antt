-- Elements of lists.
use Rattle.std.proofs.Common.{ℕ, zero, suc, ◌<◌, List, [], ◌∷◌, length, get_or, arith}
use Rattle.std.specs.List.{AllByRecursion}

pub each-at : {X : Type 0} (P : X → Type 0) (xs : List X) (k : ℕ) (d : X) → AllByRecursion P xs
    → k < length xs → P (get_or xs k d)
each-at P [] k d h lt = absurd (omega arith)
each-at P (x ∷ xs) zero d h lt = h.0
each-at P (x ∷ xs) (suc k) d h lt = each-at P xs k d h.1 (omega arith)
