-- Lists that are joined in another order have the same elements.
use Rattle.std.proofs.Common.{ℕ, zero, suc, ◌<◌, List, [], ◌∷◌, ◌++◌, length, set, get_or}
use Rattle.std.proofs.Common.{arith}
use Rattle.std.specs.Prelude.{flat_map}
use Rattle.std.specs.List.{swap}
use Rattle.std.specs.List.Sorted.{IsPermutation}
use Rattle.std.proofs.lemmas.List.{append_assoc}
use Rattle.std.proofs.lemmas.List.Sorted.{IsPermutation-refl, IsPermutation-trans}
use Rattle.std.proofs.lemmas.List.Sorted.{IsPermutation-append_left, IsPermutation-append_right}
use Rattle.std.proofs.lemmas.List.Sorted.{IsPermutation-append_comm, IsPermutation-keeps}

abbrev ArePermuted : {A : Type 0} → (A → List ℕ) → List A → List A → Type 0
ArePermuted f xs ys = IsPermutation (flat_map f xs) (flat_map f ys)

-- the first two elements exchanged
two-first : {A : Type 0} (f : A → List ℕ) (x y : A) (xs : List A)
    → ArePermuted f (x ∷ y ∷ xs) (y ∷ x ∷ xs)
two-first f x y xs =
    rw (← append_assoc (f x) (f y) (flat_map f xs), ← append_assoc (f y) (f x) (flat_map f xs))
    (IsPermutation-append_left (flat_map f xs) (f x ++ f y) (f y ++ f x)
    (IsPermutation-append_comm (f x) (f y)))

-- the first element exchanged with a later one
first-with : {A : Type 0} (f : A → List ℕ) (xs : List A) (j : ℕ) (x d : A) → j < length xs
    → ArePermuted f (x ∷ xs) (get_or xs j d ∷ set xs j x)
first-with f [] j x d lt = absurd (omega (arith, lt))
first-with f (y ∷ xs) zero x d lt = two-first f x y xs
first-with f (y ∷ xs) (suc j) x d lt =
    IsPermutation-trans _ _ _ (two-first f x y xs)
    (IsPermutation-trans _ _ _
    (IsPermutation-append_right (f y) _ _ (first-with f xs j x d (omega (arith, lt))))
    (two-first f y (get_or xs j d) (set xs j x)))

-- any two elements exchanged
two-of : {A : Type 0} (f : A → List ℕ) (xs : List A) (i j : ℕ) (d : A) → i < length xs
    → j < length xs → ArePermuted f xs (set (set xs i (get_or xs j d)) j (get_or xs i d))
two-of f [] i j d p q = absurd (omega (arith, p))
two-of f (x ∷ xs) zero zero d p q = IsPermutation-refl _
two-of f (x ∷ xs) zero (suc j) d p q = first-with f xs j x d (omega (arith, q))
two-of f (x ∷ xs) (suc i) zero d p q = first-with f xs i x d (omega (arith, p))
two-of f (x ∷ xs) (suc i) (suc j) d p q =
    IsPermutation-append_right (f x) _ _ (two-of f xs i j d (omega (arith, p)) (omega (arith, q)))

swapped : {A : Type 0} (f : A → List ℕ) (xs : List A) (i j : ℕ) → i < length xs → j < length xs
    → ArePermuted f xs (swap xs i j)
swapped f [] i j p q = IsPermutation-refl _
swapped f (x ∷ xs) i j p q = two-of f (x ∷ xs) i j x p q

pub flat-permutation : {A : Type 0} (f : A → List ℕ) (xs ys : List A) → IsPermutation xs ys
    → IsPermutation (flat_map f xs) (flat_map f ys)
flat-permutation f xs = IsPermutation-keeps xs (λ l. ArePermuted f xs l) (IsPermutation-refl _)
    (λ l i j p q h. IsPermutation-trans _ _ _ h (swapped f l i j p q))
