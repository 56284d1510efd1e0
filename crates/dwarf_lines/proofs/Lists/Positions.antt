-- The index of the first match in a list, and in a list mapped by a key.
use Rattle.std.proofs.Common.{◌≡◌, ℕ, zero, suc, ◌+◌, ◌<◌, ◌≤◌, List, [], ◌∷◌, length, get_or, Bool}
use Rattle.std.proofs.Common.{true, false, cond, ◌==◌, Some, None, refl, sym, ap, subst, arith, inl}
use Rattle.std.proofs.Common.{inr, eq-eqb, add-one}
use Rattle.std.specs.Prelude.{map, position, not}
use Rattle.std.specs.List.{prefix_len}
use Rattle.std.specs.Prelude.{nat_lt}
use Rattle.std.specs.Borrow.{Bor}
use denote.Param.Members.{Mut}
use Rattle.std.specs.Fn.{Called, ComputesKey}
use Rattle.std.specs.List.Sorted.{IsStrictlyIncreasing, IsPartitionedBy, IsPartitionPoint}
use Rattle.std.proofs.lemmas.List.Sorted.{IsPartitionPoint-from_clause}
use Rattle.std.proofs.lemmas.List.{length-map, get_or-map}
use Rattle.std.proofs.lemmas.List.Sums.{position_or_len_is}
use Rattle.std.proofs.lemmas.Bool.{cases_lt, lt-ltb, le-ltb, ltb-true, ltb-false}
use Rattle.std.proofs.lemmas.Bool.Decides.{nat_tests}

prefix-len-map : {A B : Type 0} (q : B → Bool) (f : A → B) (xs : List A)
    → prefix_len q (map f xs) ≡ prefix_len (λ x. q (f x)) xs
prefix-len-map q f [] = refl
prefix-len-map q f (x ∷ xs) = ap (λ n. cond (q (f x)) (1 + n) 0) (prefix-len-map q f xs)

pub position_of_map : {A B : Type 0} (p : B → Bool) (f : A → B) (xs : List A)
    → position p (map f xs) ≡ position (λ x. p (f x)) xs
position_of_map p f xs = rw (prefix-len-map (λ x. not (p x)) f xs, length-map) refl

-- in a list with strictly increasing keys, a later element has a greater key
pub rises : {X : Type 0} (key : X → ℕ) (xs : List X) → IsStrictlyIncreasing (map key xs)
    → (i j : ℕ) (d : X) → i < j → j < length xs
    → key (get_or xs i d) < key (get_or xs j d)
rises key xs h i zero d lt in_range = absurd (omega arith)
rises key xs h i (suc j) d lt in_range =
    let len = length-map xs key in
    let step : get_or (map key xs) j 0 < get_or (map key xs) (j + 1) 0 = h j (omega (arith, len)) in
    let here = get_or-map key xs j d 0 (omega arith) in
    let there = get_or-map key xs (j + 1) d 0 (omega arith) in
    let next : key (get_or xs j d) < key (get_or xs (j + 1) d) = omega (arith, step, here, there) in
    let one : key (get_or xs j d) < key (get_or xs (suc j) d) = rw add-one at next in
    elim (cases_lt i j) [
      | inl before ↦ (let further = rises key xs h i j d before (omega arith) in
          omega (arith, further, one))
      | inr after ↦ (let same : i ≡ j = omega arith in
          subst (λ (k : ℕ). key (get_or xs k d) < key (get_or xs (suc j) d)) (sym same) one)
    ]

is-not : (a b : ℕ) → a < b → (a == b) ≡ false
is-not a b lt = grind (arith, nat_tests)

is-not-above : (a b : ℕ) → b < a → (a == b) ≡ false
is-not-above a b lt = grind (arith, nat_tests)

-- the first key equal to x is at n if all keys before n are below x
pub position-found : {X : Type 0} (key : X → ℕ) (xs : List X) (x n : ℕ) (d : X)
    → ((k : ℕ) → k < n → key (get_or xs k d) < x)
    → n < length xs → key (get_or xs n d) ≡ x
    → position (λ y. key y == x) xs ≡ Some n
position-found {X} key xs x n d below in_range here =
    let p : X → Bool = λ y. key y == x in
    let len = position_or_len_is p xs n d (omega arith)
    (λ k h. is-not (key (get_or xs k d)) x (below k h))
    (λ _. eq-eqb (key (get_or xs n d)) x here) in
    rw (len, lt-ltb n (length xs) in_range) refl

-- No key equals x if n separates the keys below x from the others, and the key at n, if there is
-- one, differs from x.
pub position-missing : {X : Type 0} (key : X → ℕ) (xs : List X) (x n : ℕ)
    → IsStrictlyIncreasing (map key xs) → IsPartitionPoint (λ y. key y < x) (λ y. x ≤ key y) xs n
    → ((d : X) → n < length xs → key (get_or xs n d) ≡ x → ⊥) → position (λ y. key y == x) xs ≡ None
position-missing key [] x n rise parts differs = refl
position-missing {X} key (d ∷ ds) x n rise parts differs =
    let xs : List X = d ∷ ds in
    let p : X → Bool = λ y. key y == x in
    let above : n < length xs → x < key (get_or xs n d) = λ h. let le =
    parts.1 n d (omega arith) h in let ne : key (get_or xs n d) ≡ x → ⊥ = differs d h in
    omega (arith, le, ne) in
    let fails : (k : ℕ) → k < length xs → p (get_or xs k d) ≡ false = λ k h. elim (cases_lt k n) [
      | inl before ↦ is-not (key (get_or xs k d)) x (parts.0 k d (omega arith) before)
      | inr after ↦ is-not-above (key (get_or xs k d)) x
          (let high = above (omega arith) in elim (cases_lt n k) [
            | inl more ↦ (let later = rises key xs rise n k d more h in omega (arith, later, high))
            | inr le ↦ (let same : n ≡ k = omega arith in
                subst (λ (i : ℕ). x < key (get_or xs i d)) same high)
          ])
    ] in
    let len = position_or_len_is p xs (length xs) d (omega arith) fails
    (λ lt. absurd (omega arith)) in
    rw (len, le-ltb (length xs) (length xs) (omega arith)) refl

-- keys below x precede the other keys
partitioned : {X : Type 0} (key : X → ℕ) (xs : List X) (x : ℕ) → IsStrictlyIncreasing (map key xs)
    → IsPartitionedBy (λ y. nat_lt (key y) x) xs
partitioned key xs x rise i j d le in_range passes =
    let low : key (get_or xs j d) < x = ltb-true (key (get_or xs j d)) x passes in
    lt-ltb (key (get_or xs i d)) x (elim (cases_lt i j) [
      | inl before ↦ (let less = rises key xs rise i j d before in_range in
          omega (arith, less, low))
      | inr after ↦ (let same : j ≡ i = omega arith in
          subst (λ (k : ℕ). key (get_or xs k d) < x) same low)
    ])

-- the result of a binary search by an increasing key: all keys before it are below x, and no later
-- one is
pub partition : {X : Type 0} (key : X → ℕ) {F : Type 0} {g : Mut F (Bor X × Unit {0}) Bool} {f : F}
    (xs : List X) (x n : ℕ)
    → IsStrictlyIncreasing (map key xs)
    → ((q : X → Bool) → ComputesKey g q f → IsPartitionedBy q xs
    → IsPartitionPoint (λ y. q y ≡ true) (λ y. q y ≡ false) xs n)
    → ((a : Bor X × Unit {0}) (r : Bool) (f' : F) → Called g f a r f' → (r ≡ nat_lt (key a.0.now) x)
    × (f' ≡ f))
    → IsPartitionPoint (λ y. key y < x) (λ y. x ≤ key y) xs n
partition {X} key xs x n rise partitions calls =
    let found = IsPartitionPoint-from_clause (λ (y : X). nat_lt (key y) x) xs n partitions
    (partitioned key xs x rise) calls in (
      λ k d low high. ltb-true (key (get_or xs k d)) x (found.0 k d low high),
      λ k d low high. ltb-false (key (get_or xs k d)) x (found.1 k d low high),
    )

-- a smaller number before strictly increasing numbers
pub rising-cons : (x : ℕ) (xs : List ℕ) → (0 < length xs → x < get_or xs 0 0)
    → IsStrictlyIncreasing xs → IsStrictlyIncreasing (x ∷ xs)
rising-cons x xs first rise zero lt = first (omega arith)
rising-cons x xs first rise (suc k) lt = rw add-one (rw add-one at (rise k (omega arith)))
