-- The data of the program's scopes, by their numbers.
use Rattle.std.proofs.Common.{◌≡◌, ◌∙◌, ℕ, zero, suc, ◌<◌, List, [], ◌∷◌, length, map, get_or, refl}
use Rattle.std.proofs.Common.{sym, ap, subst, arith}
use Rattle.std.specs.Prelude.{Some, slice_get}
use Rattle.std.proofs.lemmas.List.{length-map, get_or-map}
use Rattle.dwarf_entries.specs.declared.scope.Scope.{Scope as Kept}
use Rattle.dwarf_entries.specs.Scopes.{Scope, Own, own, own_of}
use Rattle.dwarf_entries.specs.Order.{AreInOrder, HasDataOf}
use Rattle.dwarf_entries.proofs.ScopePasses.DataLaws.{data-of}

pub own-count : (kept : List Kept) (scopes : List Scope) → map own_of kept ≡ map own scopes
    → length kept ≡ length scopes
own-count kept scopes same = sym (length-map kept own_of) ∙ (ap length same ∙ length-map scopes own)

get-there : {X : Type 0} (xs : List X) (i : ℕ) (d : X) → i < length xs
    → slice_get xs i ≡ Some (get_or xs i d)
get-there [] i d lt = absurd (omega arith)
get-there (x ∷ xs) zero d lt = refl
get-there (x ∷ xs) (suc i) d lt = get-there xs i d (omega arith)

the-same : {X : Type 0} {x y : X} → Some x ≡ Some y → x ≡ y
the-same e = cc

pub returned-item : (scopes : List Scope) (kept : List Kept) (i : ℕ) (r : Kept) → AreInOrder scopes
    → map own_of kept ≡ map own scopes
    → i < length scopes → (d : Scope) → HasDataOf scopes (get_or kept i r) (get_or scopes i d)
returned-item scopes kept i r order same lt d =
    let len : length kept ≡ length scopes = own-count kept scopes same in
    let t = data-of scopes kept i (get_or kept i r) order same
    (get-there kept i r (omega arith)) in
    subst (λ (s : Scope). HasDataOf scopes (get_or kept i r) s)
    (the-same (sym t.1 ∙ get-there scopes i d lt)) t.2

pub end-item : (scopes : List Scope) (kept : List Kept) (i : ℕ) (r : Kept) (d : Scope)
    → map own_of kept ≡ map own scopes
    → i < length scopes → (own_of (get_or kept i r)).«end» ≡ (get_or scopes i d).«end»
end-item scopes kept i r d same lt =
    let len : length kept ≡ length scopes = own-count kept scopes same in
    ap (λ (o : Own). o.«end»)
    (sym (get_or-map own_of kept i r (own d) (omega arith))
    ∙ (ap (λ (os : List Own). get_or os i (own d)) same ∙ get_or-map own scopes i d (own d) lt))
