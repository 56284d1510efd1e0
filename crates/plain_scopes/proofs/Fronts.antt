-- The attributes that are read so far, in front of the rest.
use Rattle.std.proofs.Common.{◌≡◌, ℕ, List, [], ◌∷◌, ◌++◌, refl, append_assoc}
use Rattle.std.specs.Prelude.{Result, Ok, Err}
use Rattle.dwarf_bytes.specs.{declared.fault.Cause.Cause, Bind.◌>>=◌}
use Rattle.dwarf_units.specs.declared.attributes.Attribute.{Attribute}

abbrev pub Read : Type 0
Read = Result (List Attribute × ℕ) Cause

abbrev pub in_front : List Attribute → Read → Read
in_front front (Ok rest) = Ok (front ++ rest.0, rest.1)
in_front front (Err cause) = Err cause

-- One more attribute.
pub next : (front : List Attribute) (a : Attribute) (rest : Read)
    → in_front front (rest >>= λ more. Ok (a ∷ more.0, more.1)) ≡ in_front (front ++ a ∷ []) rest
next front a (Ok more) = rw (append_assoc front (a ∷ []) more.0) refl
next front a (Err cause) = refl
