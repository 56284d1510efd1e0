-- The bytes and the exchanges of a stream over several calls.
use Rattle.std.proofs.Common.{ℕ, List, [], ◌++◌, sym, ◌∙◌, ap, append_assoc, append-nil}
use Rattle.std.specs.Prelude.{Option, None, Some}
use Rattle.std.specs.Io.KnownBytes.{Appends, Keeps}
use Rattle.io_streams.specs.Streams.{Grows}

pub appends_unchanged : (a b c : Option (List ℕ)) (xs : List ℕ) → Appends a b xs → Keeps b c
    → Appends a c xs
appends_unchanged None b c xs h k = tt
appends_unchanged (Some a) None c xs h k = absurd h
appends_unchanged (Some a) (Some b) None xs h k = absurd k
appends_unchanged (Some a) (Some b) (Some c) xs h k = k ∙ h

pub appends_then : (a b c : Option (List ℕ)) (xs ys : List ℕ) → Appends a b xs → Appends b c ys
    → Appends a c (xs ++ ys)
appends_then None b c xs ys h k = tt
appends_then (Some a) None c xs ys h k = absurd h
appends_then (Some a) (Some b) None xs ys h k = absurd k
appends_then (Some a) (Some b) (Some c) xs ys h k = k ∙ ap (λ z. z ++ ys) h ∙ append_assoc a xs ys

pub appends_nothing : (a : Option (List ℕ)) → Appends a a []
appends_nothing None = tt
appends_nothing (Some a) = sym (append-nil a)

pub grows_then : {X : Type 0} (a b c : Option (List X)) (xs ys : List X) → Grows a b xs
    → Grows b c ys → Grows a c (xs ++ ys)
grows_then None b c xs ys h k = tt
grows_then (Some a) None c xs ys h k = absurd h
grows_then (Some a) (Some b) None xs ys h k = absurd k
grows_then (Some a) (Some b) (Some c) xs ys h k = k ∙ ap (λ z. z ++ ys) h ∙ append_assoc a xs ys

pub grows_nothing : {X : Type 0} (a : Option (List X)) → Grows a a []
grows_nothing None = tt
grows_nothing (Some a) = sym (append-nil a)
