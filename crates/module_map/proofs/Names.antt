-- Names of modules, and a list with one element overwritten.
use Rattle.std.proofs.Common.{◌≡◌, ◌≢◌, inl, inr, ℕ, zero, suc, ◌-◌, ◌<◌, ◌≤◌, Bool, true, false}
use Rattle.std.proofs.Common.{List, [], ◌∷◌, ◌++◌, length, get_or}
use Rattle.std.proofs.Common.{take, set, refl, sym, ap, ap₂, ◌∙◌, subst, arith}
use Rattle.std.specs.Prelude.{Option, None, Some, IfSome, position, insert, nat_le, nat_lt, not}
use Rattle.std.specs.Prelude.{if◌then◌else◌}
use Rattle.std.specs.List.{position_or_len}
use Rattle.std.proofs.lemmas.Bool.{ltb-false, true≢false}
use Rattle.std.proofs.lemmas.List.{get_or_default}
use Rattle.std.proofs.lemmas.List.Sums.{prefix_len_passes}
use Rattle.std.proofs.lemmas.List.Quantifiers.{position-Some}
use Rattle.std.proofs.lemmas.Slice.Eq.{bytes_eq-Decides}
use Rattle.module_map.specs.World.{is_named}
use Rattle.module_map.specs.Private.Serials.{NumberedModule}
use Rattle.module_map.specs.Private.Rising.{AreRising, IsOther, IsOnly, relocated, rebased}
use Rattle.module_map.proofs.Rotations.{remove-set, get_or-set_here}

not-front : {X : Type 0} (p : X → Bool) (xs : List X) → position p xs ≡ None
    → length xs ≤ position_or_len p xs
not-front p xs none = by (nat_lt (position_or_len p xs) (length xs)) refl
  where
    by : (b : Bool) → nat_lt (position_or_len p xs) (length xs) ≡ b
        → length xs ≤ position_or_len p xs
    by true e = let bad = rw e at none in cc
    by false e = ltb-false (position_or_len p xs) (length xs) e

pub all-fail : {X : Type 0} (p : X → Bool) (xs : List X) → position p xs ≡ None → (k : ℕ) (d : X)
    → k < length xs
    → p (get_or xs k d) ≡ false
all-fail p xs none k d lt =
    let n = not-front p xs none in not_true (p (get_or xs k d))
    (prefix_len_passes (λ x. not (p x)) xs k d (omega arith))
  where
    not_true : (b : Bool) → not b ≡ true → b ≡ false
    not_true true e = cc
    not_true false e = refl

pub names-differ : (name : List ℕ) (sorted : List NumberedModule)
    → position (λ (h : NumberedModule). is_named name h.loaded) sorted ≡ None
    → (k : ℕ) (d : NumberedModule) → k < length sorted → (get_or sorted k d).loaded.name ≢ name
names-differ name sorted none k d lt = λ e. let f =
    all-fail (λ (h : NumberedModule). is_named name h.loaded) sorted none k d lt in
    true≢false (sym ((bytes_eq-Decides (get_or sorted k d).loaded.name name).1 e) ∙ f)

pub whole : {X : Type 0} (xs ys : List X) (n : ℕ) → length xs ≡ n → take n (xs ++ ys) ≡ xs
whole [] ys n e = rw (← e) refl
whole (x ∷ xs) ys zero e = absurd (omega arith)
whole (x ∷ xs) ys (suc n) e = ap (λ l. x ∷ l) (whole xs ys n (omega arith))

-- the same list, if the moved module is overwritten at its old index first
pub turned-set : (sorted items xs : List NumberedModule) (own at base : ℕ)
    (h was d : NumberedModule)
    → items ≡ sorted → own < length sorted
    → xs ≡ set items own h → h ≡ rebased base was → was ≡ get_or items own was
    → relocated xs own at (get_or xs own d)
    ≡ relocated sorted own at (rebased base (get_or sorted own d))
turned-set sorted items xs own at base h was d same lt written is old =
    let there : own < length items = subst (λ (l : List NumberedModule). own < length l) (sym same)
    lt in
    ap (λ (l : List NumberedModule). relocated l own at (get_or l own d)) written
    ∙ ap₂ (λ (l : List NumberedModule) (g : NumberedModule). insert l
    (if nat_le at own then at else at - 1) g) (remove-set items own h)
    (get_or-set_here items own h d there ∙ is
    ∙ ap (rebased base) (old ∙ get_or_default items own was d there))
    ∙ ap (λ (l : List NumberedModule). relocated l own at (rebased base (get_or l own d))) same

-- the first module with a name is the only one
pub only-named : (name : List ℕ) (sorted : List NumberedModule) → AreRising sorted → (o : Option ℕ)
    → o ≡ position (λ (h : NumberedModule). is_named name h.loaded) sorted
    → IfSome o (IsOnly sorted name)
only-named name sorted rising None e = tt
only-named name sorted rising (Some own) e =
    record { within = within sorted own (sym e); here = here; others = others }
  where
    within : (hs : List NumberedModule) (i : ℕ)
        → position (λ (h : NumberedModule). is_named name h.loaded) hs ≡ Some i → i < length hs
    within [] i e = cc
    within (x ∷ xs) i e = (position-Some (λ (h : NumberedModule). is_named name h.loaded) (x ∷ xs) i
        x e).0

    here : (d : NumberedModule) → (get_or sorted own d).loaded.name ≡ name
    here d =
        (bytes_eq-Decides (get_or sorted own d).loaded.name name).0
        (position-Some (λ (h : NumberedModule). is_named name h.loaded) sorted own d (sym e)).1

    others : (k : ℕ) (d : NumberedModule) → k < length sorted → IsOther own k
        → (get_or sorted k d).loaded.name ≢ name
    others k d lt (inl below) = λ same. rising.names k own d below (within sorted own (sym e))
        (same ∙ sym (here d))
    others k d lt (inr above) = λ same. rising.names own k d above lt (here d ∙ sym same)
