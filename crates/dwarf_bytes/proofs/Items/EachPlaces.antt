-- The elements of a mapped list, by index.
use Rattle.std.proofs.Common.{◌≡◌, ℕ, zero, suc, ◌<◌, List, [], ◌∷◌, ◌++◌, length, take, get_or}
use Rattle.std.proofs.Common.{refl, sym, ap, ◌∙◌, subst, arith, append_assoc, append-nil}
use Rattle.std.specs.Prelude.{Result, Ok, Err}
use Rattle.dwarf_bytes.specs.Bind.{◌>>=◌}
use Rattle.dwarf_bytes.specs.Items.{At, each_from}
use Rattle.dwarf_bytes.proofs.Numbers.Advance.{after-bind}
use Rattle.dwarf_bytes.proofs.Numbers.Moves.{same-ok}

pub each-length : {X Y : Type 0} (make : List Y → X → Result Y At) (before : List Y) (xs : List X)
    (ys : List Y)
    → each_from make before xs ≡ Ok ys → length ys ≡ length xs
unfolding each_from
each-length make before [] ys h = ap length (sym (same-ok [] ys h))
each-length make before (x ∷ xs) ys h =
    after-bind (make before x) _ ys h (length ys ≡ suc (length xs)) (λ y _ h1.
    after-bind (each_from make (before ++ y ∷ []) xs) _ ys h1 (length ys ≡ suc (length xs))
    (λ rest rest-is last.
    ap length (sym (same-ok (y ∷ rest) ys last)) ∙ ap (λ (n : ℕ). suc n)
    (each-length make (before ++ y ∷ []) xs rest rest-is)))

-- each result depends on the results before it
pub each-place : {X Y : Type 0} (make : List Y → X → Result Y At) (before : List Y) (xs : List X)
    (ys : List Y)
    → each_from make before xs ≡ Ok ys → (i : ℕ) (dx : X) (dy : Y) → i < length xs
    → make (before ++ take i ys) (get_or xs i dx) ≡ Ok (get_or ys i dy)
unfolding each_from
each-place make before [] ys h i dx dy within = absurd (omega (arith, within))
each-place {X = X} {Y = Y} make before (x ∷ xs) ys h i dx dy within =
    let P : Type 0 = make (before ++ take i ys) (get_or (x ∷ xs) i dx) ≡ Ok (get_or ys i dy) in
    after-bind (make before x) _ ys h P (λ y y_is h1.
    after-bind (each_from make (before ++ y ∷ []) xs) _ ys h1 P (λ rest rest-is last.
    subst (λ (all : List Y). make (before ++ take i all) (get_or (x ∷ xs) i dx)
    ≡ Ok (get_or all i dy))
    (same-ok (y ∷ rest) ys last)
    (at_place y rest y_is i within (λ (j : ℕ) (inside : j < length xs). each-place make
    (before ++ y ∷ []) xs rest rest-is j dx dy inside))))
  where
    at_place : (y : Y) (rest : List Y) → make before x ≡ Ok y → (i : ℕ) → i < suc (length xs)
        → ((j : ℕ) → j < length xs → make ((before ++ y ∷ []) ++ take j rest) (get_or xs j dx)
        ≡ Ok (get_or rest j dy))
        → make (before ++ take i (y ∷ rest)) (get_or (x ∷ xs) i dx) ≡ Ok (get_or (y ∷ rest) i dy)
    at_place y rest y_is zero within later = ap (λ (b : List Y). make b x) (append-nil before)
        ∙ y_is
    at_place y rest y_is (suc i) within later =
        ap (λ (b : List Y). make b (get_or xs i dx))
        (sym (append_assoc before (y ∷ []) (take i rest)))
        ∙ later i (omega (arith, within))

-- mapping the concatenation of two lists
pub each-append : {X Y : Type 0} (make : List Y → X → Result Y At) (before : List Y)
    (xs more : List X)
    → each_from make before (xs ++ more) ≡ (each_from make before xs >>= λ ys. each_from make
    (before ++ ys) more >>= λ zs. Ok (ys ++ zs))
unfolding each_from
each-append {X = X} {Y = Y} make before [] more =
    ap (λ (b : List Y). each_from make b more) (sym (append-nil before))
    ∙ whole (each_from make (before ++ []) more)
  where
    whole : (r : Result (List Y) At) → r ≡ (r >>= λ zs. Ok ([] ++ zs))
    whole (Ok zs) = refl
    whole (Err e) = refl
each-append {X = X} {Y = Y} make before (x ∷ xs) more =
    first (make before x) (λ y. each-append make (before ++ y ∷ []) xs more)
  where
    then : (y : Y) (r : Result (List Y) At)
        → ((r >>= λ ys. each_from make ((before ++ y ∷ []) ++ ys) more >>= λ zs. Ok (ys ++ zs))
        >>= λ ys. Ok (y ∷ ys)) ≡
        ((r >>= λ ys. Ok (y ∷ ys)) >>= λ ys. each_from make (before ++ ys) more
        >>= λ zs. Ok (ys ++ zs))
    then y (Err e) = refl
    then y (Ok ys) = rw (append_assoc before (y ∷ []) ys)
        (last (each_from make (before ++ y ∷ ys) more))
      where
        last : (r : Result (List Y) At) → ((r >>= λ zs. Ok (ys ++ zs)) >>= λ ys. Ok (y ∷ ys)) ≡
            (r >>= λ zs. Ok ((y ∷ ys) ++ zs))
        last (Ok zs) = refl
        last (Err e) = refl

    first : (r : Result Y At) → ((y : Y) → each_from make (before ++ y ∷ []) (xs ++ more) ≡
        (each_from make (before ++ y ∷ []) xs >>= λ ys. each_from make ((before ++ y ∷ []) ++ ys)
        more >>= λ zs. Ok
        (ys ++ zs)))
        → (r >>= λ y. each_from make (before ++ y ∷ []) (xs ++ more) >>= λ ys. Ok (y ∷ ys)) ≡
        ((r >>= λ y. each_from make (before ++ y ∷ []) xs >>= λ ys. Ok (y ∷ ys))
        >>= λ ys. each_from make
        (before ++ ys) more >>= λ zs. Ok (ys ++ zs))
    first (Err e) again = refl
    first (Ok y) again = ap (λ (r : Result (List Y) At). r >>= λ ys. Ok (y ∷ ys)) (again y)
        ∙ then y (each_from make (before ++ y ∷ []) xs)
