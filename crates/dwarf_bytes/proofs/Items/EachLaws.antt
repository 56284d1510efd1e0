-- The iterations of a loop that maps a list.
use Rattle.std.proofs.Common.{◌≡◌, List, [], ◌∷◌, ◌++◌, refl, ap, sym, append_assoc, append-nil}
use Rattle.std.specs.Prelude.{Result, Ok, Err}
use Rattle.dwarf_bytes.specs.Bind.{◌>>=◌}
use Rattle.dwarf_bytes.specs.Items.{At, each_from}

-- the results so far, followed by the results for the rest
abbrev pub made_front : {Y : Type 0} → List Y → Result (List Y) At → Result (List Y) At
made_front front (Ok rest) = Ok (front ++ rest)
made_front front (Err e) = Err e

pub made-front-next : {Y : Type 0} (front : List Y) (y : Y) (rest : Result (List Y) At)
    → made_front front (rest >>= λ ys. Ok (y ∷ ys)) ≡ made_front (front ++ y ∷ []) rest
made-front-next front y (Ok rest) = ap (λ (all : List _). Ok all)
    (sym (append_assoc front (y ∷ []) rest))
made-front-next front y (Err e) = refl

pub each-next : {X Y : Type 0} (make : List Y → X → Result Y At) (before : List Y) (x : X)
    (xs : List X) (y : Y)
    → make before x ≡ Ok y → made_front before (each_from make before (x ∷ xs))
    ≡ made_front (before ++ y ∷ [])
    (each_from make (before ++ y ∷ []) xs)
unfolding each_from
each-next make before x xs y is = rw is (made-front-next before y
    (each_from make (before ++ y ∷ []) xs))

pub each-fault : {X Y : Type 0} (make : List Y → X → Result Y At) (before : List Y) (x : X)
    (xs : List X) (e : At)
    → make before x ≡ Err e → made_front before (each_from make before (x ∷ xs)) ≡ Err e
unfolding each_from
each-fault make before x xs e is = rw is refl

pub each-end : {X Y : Type 0} (make : List Y → X → Result Y At) (before : List Y)
    → made_front before (each_from make before []) ≡ Ok before
unfolding each_from
each-end make before = rw append-nil refl
