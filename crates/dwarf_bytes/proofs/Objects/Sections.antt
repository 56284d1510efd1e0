-- Validation of one more section header.
use Rattle.std.proofs.Common.{◌≡◌, ℕ, zero, suc, ◌+◌, ◌-◌, ◌<◌, Bool, true, false, not, cond, ltb}
use Rattle.std.proofs.Common.{◌&&◌, ◌||◌, List, [], ◌∷◌, ◌++◌, length, get_or, set, Option, Some}
use Rattle.std.proofs.Common.{None, refl, sym, ap, subst, ◌∙◌, arith, position, is_some, map, find}
use Rattle.std.specs.List.{prefix_len, list_any, range_with_len}
use Rattle.std.specs.Option.{option_or}
use Rattle.std.specs.Str.{bytes_eq}
use Rattle.std.specs.Prelude.{MatchOption}
use Rattle.std.proofs.lemmas.Slice.Eq.{bytes_eq-Decides}
use Rattle.std.proofs.lemmas.Bool.{ltb-false, ltb-true, le-ltb}
use Rattle.dwarf_bytes.specs.declared.fault.Section.{Section}
use Rattle.dwarf_bytes.specs.Words.{section_name}
use Rattle.dwarf_bytes.specs.Elf.{wanted}

not-any-at : {X : Type 0} (p : X → Bool) (x : X) (xs : List X) (b : Bool) → p x ≡ b
    → (ltb (prefix_len (λ y. not (p y)) xs) (length xs) ≡ false → list_any p xs ≡ false)
    → ltb (prefix_len (λ y. not (p y)) (x ∷ xs)) (suc (length xs)) ≡ false
    → list_any p (x ∷ xs) ≡ false
not-any-at p x xs true is more h = absurd (let none = ltb-false _ _ (rw is at h) in omega arith)
not-any-at p x xs false is more h =
    let past = ltb-false _ _ (rw is at h) in
    rw is (more (le-ltb _ _ (omega arith)))

-- if a search finds nothing, no element satisfies the predicate
pub not-any : {X : Type 0} (p : X → Bool) (xs : List X)
    → ltb (prefix_len (λ y. not (p y)) xs) (length xs) ≡ false
    → list_any p xs ≡ false
not-any p [] h = refl
not-any p (x ∷ xs) h = not-any-at p x xs (p x) refl (not-any p xs) h

-- the i-th element satisfies the predicate
abbrev PassesAt : {X : Type 0} → (X → Bool) → List X → ℕ → Type 0
PassesAt p [] i = ⊥
PassesAt p (x ∷ xs) zero = p x ≡ true
PassesAt p (x ∷ xs) (suc i) = PassesAt p xs i

passes-at : {X : Type 0} (p : X → Bool) (x : X) (xs : List X) (b : Bool) → p x ≡ b
    → (prefix_len (λ y. not (p y)) xs < length xs → PassesAt p xs (prefix_len (λ y. not (p y)) xs))
    → cond (not b) (1 + prefix_len (λ y. not (p y)) xs) 0 < suc (length xs)
    → PassesAt p (x ∷ xs) (cond (not b) (1 + prefix_len (λ y. not (p y)) xs) 0)
passes-at p x xs true is more h = is
passes-at p x xs false is more h =
    let next : 1 + prefix_len (λ y. not (p y)) xs ≡ suc (prefix_len (λ y. not (p y)) xs) =
    omega arith in
    rw next (more (omega arith))

pub passes : {X : Type 0} (p : X → Bool) (xs : List X) → prefix_len (λ y. not (p y)) xs < length xs
    → PassesAt p xs (prefix_len (λ y. not (p y)) xs)
passes p [] h = omega arith
passes p (x ∷ xs) h = passes-at p x xs (p x) refl (passes p xs) h

-- ---- predicates that only one element satisfies

-- the i-th element is the only one that satisfies the predicate
abbrev pub IsOnly : {X : Type 0} → (X → Bool) → List X → ℕ → Type 0
IsOnly p [] i = ⊥
IsOnly p (x ∷ xs) zero = (p x ≡ true) × (list_any p xs ≡ false)
IsOnly p (x ∷ xs) (suc i) = (p x ≡ false) × IsOnly p xs i

any-and-at : {X : Type 0} (p q : X → Bool) (x : X) (xs : List X) (b : Bool) → p x ≡ b
    → (list_any p xs ≡ false → list_any (λ y. p y && q y) xs ≡ false) → list_any p (x ∷ xs) ≡ false
    → list_any (λ y. p y && q y) (x ∷ xs) ≡ false
any-and-at p q x xs true is more h = absurd (let no = rw is at h in cc)
any-and-at p q x xs false is more h = rw is (more (rw is at h))

pub any-and : {X : Type 0} (p q : X → Bool) (xs : List X) → list_any p xs ≡ false
    → list_any (λ x. p x && q x) xs ≡ false
any-and p q [] h = refl
any-and p q (x ∷ xs) h = any-and-at p q x xs (p x) refl (any-and p q xs) h

pub only-any : {X : Type 0} (p : X → Bool) (xs : List X) (i : ℕ) → IsOnly p xs i
    → list_any p xs ≡ true
only-any p [] i h = absurd h
only-any p (x ∷ xs) zero h = rw h.0 refl
only-any p (x ∷ xs) (suc i) h = rw h.0 (only-any p xs i h.1)

pub only-and : {X Y : Type 0} (p q : X → Bool) (f : X → Option Y)
    (same : (x : X) → q x ≡ is_some (f x)) (xs : List X)
    (i : ℕ) → IsOnly p xs i → list_any (λ x. p x && q x) xs ≡ is_some (get_or (map f xs) i None)
only-and p q f same [] i h = absurd h
only-and p q f same (x ∷ xs) zero h = rw (h.0, any-and p q xs h.1) (or_false (q x) ∙ same x)
  where
    or_false : (b : Bool) → (b || false) ≡ b
    or_false true = refl
    or_false false = refl
only-and p q f same (x ∷ xs) (suc i) h = rw h.0 (only-and p q f same xs i h.1)

none-map-at : {X Y : Type 0} (p : X → Bool) (f g : X → Y) (same : (x : X) → p x ≡ false → g x ≡ f x)
    (x : X)
    (xs : List X) (b : Bool) → p x ≡ b → (list_any p xs ≡ false → map g xs ≡ map f xs)
    → list_any p (x ∷ xs) ≡ false
    → map g (x ∷ xs) ≡ map f (x ∷ xs)
none-map-at p f g same x xs true is more h = absurd (let no = rw is at h in cc)
none-map-at p f g same x xs false is more h = rw (same x is, more (rw is at h)) refl

pub none-map : {X Y : Type 0} (p : X → Bool) (f g : X → Y)
    (same : (x : X) → p x ≡ false → g x ≡ f x) (xs : List X)
    → list_any p xs ≡ false → map g xs ≡ map f xs
none-map p f g same [] h = refl
none-map p f g same (x ∷ xs) h = none-map-at p f g same x xs (p x) refl (none-map p f g same xs) h

pub only-set : {X Y : Type 0} (p : X → Bool) (f g : X → Option Y) (v : Y)
    (same : (x : X) → p x ≡ false → g x ≡ f x)
    (new : (x : X) → p x ≡ true → is_some (f x) ≡ false → g x ≡ Some v) (xs : List X) (i : ℕ)
    → IsOnly p xs i
    → is_some (get_or (map f xs) i None) ≡ false → set (map f xs) i (Some v) ≡ map g xs
only-set p f g v same new [] i h e = absurd h
only-set p f g v same new (x ∷ xs) zero h e = rw (new x h.0 e, none-map p f g same xs h.1) refl
only-set p f g v same new (x ∷ xs) (suc i) h e =
    rw (same x h.0, only-set p f g v same new xs i h.1 e) refl

-- ---- the headers before the k-th, and the k-th

found-else : {X : Type 0} (b : Bool) (x : X) (long short other : Option X)
    → long ≡ option_or short other
    → cond b (Some x) long ≡ option_or (cond b (Some x) short) other
found-else true x long short other h = refl
found-else false x long short other h = h

pub find-push : {X : Type 0} (q : X → Bool) (xs : List X) (y : X)
    → find q (xs ++ y ∷ []) ≡ option_or (find q xs) (cond (q y) (Some y) None)
find-push q [] y = refl
find-push q (x ∷ xs) y = found-else (q x) x _ _ _ (find-push q xs y)

pub range-push : (a n : ℕ) → range_with_len a (suc n) ≡ range_with_len a n ++ (a + n) ∷ []
range-push a zero = let e : a ≡ a + 0 = omega arith in ap (λ (b : ℕ). b ∷ []) e
range-push a (suc n) =
    let e : a + 1 + n ≡ a + suc n = omega arith in
    ap (λ (r : List ℕ). a ∷ r) (range-push (a + 1) n
    ∙ ap (λ (b : ℕ). range_with_len (a + 1) n ++ b ∷ []) e)

any-or : {X : Type 0} (b : Bool) (x : X) (any : Bool) (rest : Option X) → any ≡ is_some rest
    → (b || any) ≡ is_some (cond b (Some x) rest)
any-or true x any rest h = refl
any-or false x any rest h = h

pub any-found : {X : Type 0} (q : X → Bool) (xs : List X) → list_any q xs ≡ is_some (find q xs)
any-found q [] = refl
any-found q (x ∷ xs) = any-or (q x) x _ _ (any-found q xs)

-- ---- the section that has a name

abbrev pub is_name : List ℕ → Section → Bool
is_name name s = bytes_eq name (section_name s)

same-bytes : (xs ys : List ℕ) → bytes_eq xs ys ≡ true → xs ≡ ys
same-bytes xs ys h = (bytes_eq-Decides xs ys).0 h

only : (name : List ℕ) (i : ℕ) → PassesAt (is_name name) wanted i → IsOnly (is_name name) wanted i
only name zero h = subst (λ (n : List ℕ). IsOnly (is_name n) wanted 0) (sym (same-bytes name _ h))
    (refl, refl)
only name (suc zero) h =
    subst (λ (n : List ℕ). IsOnly (is_name n) wanted 1) (sym (same-bytes name _ h))
    (refl, (refl, refl))
only name (suc (suc zero)) h =
    subst (λ (n : List ℕ). IsOnly (is_name n) wanted 2) (sym (same-bytes name _ h))
    (refl, (refl, (refl, refl)))
only name (suc (suc (suc zero))) h =
    subst (λ (n : List ℕ). IsOnly (is_name n) wanted 3) (sym (same-bytes name _ h))
    (refl, (refl, (refl, (refl, refl))))
only name (suc (suc (suc (suc zero)))) h =
    subst (λ (n : List ℕ). IsOnly (is_name n) wanted 4) (sym (same-bytes name _ h))
    (refl, (refl, (refl, (refl, (refl, refl)))))
only name (suc (suc (suc (suc (suc zero))))) h =
    subst (λ (n : List ℕ). IsOnly (is_name n) wanted 5) (sym (same-bytes name _ h))
    (refl, (refl, (refl, (refl, (refl, (refl, refl))))))
only name (suc (suc (suc (suc (suc (suc zero)))))) h =
    subst (λ (n : List ℕ). IsOnly (is_name n) wanted 6) (sym (same-bytes name _ h))
    (refl, (refl, (refl, (refl, (refl, (refl, (refl, refl)))))))
only name (suc (suc (suc (suc (suc (suc (suc zero))))))) h =
    subst (λ (n : List ℕ). IsOnly (is_name n) wanted 7) (sym (same-bytes name _ h))
    (refl, (refl, (refl, (refl, (refl, (refl, (refl, (refl, refl))))))))
only name (suc (suc (suc (suc (suc (suc (suc (suc i)))))))) h = absurd h

chosen : (b : Bool) (n : ℕ) (o : Option ℕ) → o ≡ cond b (Some n) None → (r : Option ℕ) → r ≡ o
    → MatchOption r (b ≡ false) (λ i. (b ≡ true) × (n ≡ i))
chosen true n o e None r = absurd cc
chosen true n o e (Some i) r = (refl, cc)
chosen false n o e None r = refl
chosen false n o e (Some i) r = absurd cc

pub number-none : (name : List ℕ) → None ≡ position (is_name name) wanted
    → list_any (is_name name) wanted ≡ false
number-none name h = not-any (is_name name) wanted (chosen _ _ _ refl None h)

pub number-some : (name : List ℕ) (i : ℕ) → Some i ≡ position (is_name name) wanted
    → IsOnly (is_name name) wanted i
number-some name i h =
    let c = chosen _ _ _ refl (Some i) h in
    only name i (subst (PassesAt (is_name name) wanted) c.1
    (passes (is_name name) wanted (ltb-true _ _ c.0)))
