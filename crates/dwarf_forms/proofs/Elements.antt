-- Elements of a list while elements are appended.
use Rattle.std.proofs.Common.{Bool, Err, IfOk, List, Ok, Result, Some, [], ap, arith, inl, inr}
use Rattle.std.proofs.Common.{length, length-append, map, position, refl, slice_get, suc, sym, zero}
use Rattle.std.proofs.{Common.{ℕ, ◌++◌, ◌||◌, ◌∷◌, ◌≡◌, ◌⊎◌}, lemmas.Grind.common_steps}
use Rattle.std.proofs.{lemmas.List.get_or_push, lemmas.Option.{same_Some, slice_get_read}}
use Rattle.std.specs.List.{list_any}

pub at-last : {X : Type 0} (xs : List X) (y z : X) (i : ℕ) → slice_get (xs ++ y ∷ []) i ≡ Some z
    → (slice_get xs i ≡ Some z) ⊎ ((i ≡ length xs) × (y ≡ z))
at-last [] y z zero at = inr (refl, same_Some y z at)
at-last [] y z (suc i) at = cc
at-last (x ∷ xs) y z zero at = inl at
at-last (x ∷ xs) y z (suc i) at = let rest = at-last xs y z i at in grind arith

pub at-front : {X : Type 0} (xs ys : List X) (i : ℕ) (z : X) → slice_get xs i ≡ Some z
    → slice_get (xs ++ ys) i ≡ Some z
at-front [] ys i z at = cc
at-front (x ∷ xs) ys zero z at = at
at-front (x ∷ xs) ys (suc i) z at = at-front xs ys i z at

pub at-end : {X : Type 0} (xs : List X) (x : X) (n : ℕ) → n ≡ length xs
    → slice_get (xs ++ x ∷ []) n ≡ Some x
at-end xs x n is = slice_get_read (xs ++ x ∷ []) _ n x refl
    (omega (arith, length-append xs (x ∷ []))) (sym (get_or_push xs x x n (sym is)))

-- weakens a property of a result
pub if-ok : {X E : Type 0} (P Q : X → Type 0) (r : Result X E) → IfOk r P → ((x : X) → P x → Q x)
    → IfOk r Q
if-ok P Q (Ok x) h f = f x h
if-ok P Q (Err e) h f = tt

-- ---- elements of a mapped list

pub any_map : {X Y : Type 0} (f : X → Y) (p : Y → Bool) (xs : List X)
    → list_any p (map f xs) ≡ list_any (λ x. p (f x)) xs
any_map f p [] = refl
any_map f p (x ∷ xs) = ap (λ (b : Bool). p (f x) || b) (any_map f p xs)

pub position_map : {X Y : Type 0} (f : X → Y) (p : Y → Bool) (xs : List X)
    → position p (map f xs) ≡ position (λ x. p (f x)) xs
position_map f p [] = refl
position_map f p (x ∷ xs) = let rest = position_map f p xs in grind (arith, common_steps)
