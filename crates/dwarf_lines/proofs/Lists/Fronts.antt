-- An element before the first elements of an array of three.
use Rattle.std.proofs.Common.{◌≡◌, ℕ, zero, suc, ◌+◌, ◌<◌, List, [], ◌∷◌, length, take, refl}
use Rattle.std.proofs.Common.{slice_index_or, arith}

-- If fewer than three are taken, x and the first two elements have the taken ones after x.
pub before_front : {X : Type 0} (x d : X) (xs : List X) (n : ℕ) → length xs ≡ 3
    → length (take n xs) < 3 → (n < 3)
    × (take (n + 1) (x ∷ slice_index_or xs 0 d ∷ slice_index_or xs 1 d ∷ []) ≡ x ∷ take n xs)
before_front x d [] n len few = grind arith
before_front x d (a ∷ []) n len few = grind arith
before_front x d (a ∷ b ∷ []) n len few = grind arith
before_front x d (a ∷ b ∷ c ∷ []) zero len few = (grind arith, refl)
before_front x d (a ∷ b ∷ c ∷ []) (suc zero) len few = (grind arith, refl)
before_front x d (a ∷ b ∷ c ∷ []) (suc (suc zero)) len few = (grind arith, refl)
before_front x d (a ∷ b ∷ c ∷ []) (suc (suc (suc n))) len few = grind arith
before_front x d (a ∷ b ∷ c ∷ e ∷ more) n len few = grind arith
