-- The capacity of the cache, parsed from the given string.
use Rattle.std.proofs.Common.{◌≡◌, ℕ, List, refl}
use Rattle.std.specs.Prelude.{Option, None, Some, Ok, Err}
use Rattle.std.specs.Str.Parse.{ParsesUnsigned}
use Rattle.command_line.specs.Settings.{IsCacheSize}

some_is-not-none : (size : ℕ) → Some size ≡ None → ⊥
some_is-not-none size e = cc

pub size-read : (E : Type 0) (o : Option (List ℕ)) (size : ℕ) → (o ≡ None → Some size ≡ None)
    → ((t : List ℕ) → o ≡ Some t → ParsesUnsigned {E = E} 32 10 t (Ok size)) → IsCacheSize o size
size-read E None size none read = absurd (some_is-not-none size (none refl))
size-read E (Some t) size none read = λ numeral below. (read t refl).1

pub size-not-read : (E : Type 0) (o : Option (List ℕ))
    → ((t : List ℕ) → o ≡ Some t → (e : E) × ParsesUnsigned {E = E} 32 10 t (Err e))
    → IsCacheSize o 1024
size-not-read E None read = refl
size-not-read E (Some t) read = λ numeral below. absurd ((read t refl).1 (numeral, below))
