-- Lookup by index in a list.
use Rattle.std.proofs.Common.{Bool, IfSome, List, Option, arith, find, get_or, is_some, length}
use Rattle.std.proofs.{Common.{nat_lt, position, slice_get, ℕ, ◌≡◌}, lemmas.List.Folds.find_at}
use Rattle.std.proofs.lemmas.Option.{slice_get-get_or, slice_get_past}
use Rattle.std.specs.{Borrow.Bor, List.position_or_len, Option.{option_and_then, option_copied}}

-- the element that a search finds is the one at the index that it finds
pub find-place : {X : Type 0} (p : X → Bool) (xs : List X) (place : Option ℕ)
    → position p xs ≡ place → find p xs ≡ option_and_then (λ i. slice_get xs i) place
find-place p xs place is =
    grind (arith, find_at p xs, slice_get_past xs (position_or_len p xs))

pub got : {X : Type 0} (xs : List X) (i : ℕ) (r : Option (Bor X)) → is_some r ≡ nat_lt i (length xs)
    → IfSome r (λ x. x.now ≡ get_or xs i x.now) → option_copied r ≡ slice_get xs i
got xs i r within value = grind (arith, slice_get-get_or xs i, slice_get_past xs i)
