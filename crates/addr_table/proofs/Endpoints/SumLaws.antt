-- Sums over lists.
use Rattle.std.proofs.Common.{◌≡◌, ℕ, ◌+◌, List, [], ◌∷◌, map}
use Rattle.std.proofs.Common.{Bool, cond, refl}
use Rattle.std.proofs.Common.{arith}
use Rattle.std.specs.Prelude.{sum_by}
use Rattle.std.specs.List.{AllByRecursion}
use Rattle.std.proofs.lemmas.List.Sums.{sum_by-cons}

-- 1 if a test holds
abbrev pub one-if : Bool → ℕ
one-if b = cond b 1 0

-- ---- sums

pub sums-agree : {X : Type 0} (f g : X → ℕ) (xs : List X) → AllByRecursion (λ x. f x ≡ g x) xs
    → sum_by f xs ≡ sum_by g xs
sums-agree f g [] h = refl
sums-agree f g (x ∷ xs) h =
    let a : sum_by f (x ∷ xs) ≡ f x + sum_by f xs = sum_by-cons f x xs in
    let b : sum_by g (x ∷ xs) ≡ g x + sum_by g xs = sum_by-cons g x xs in
    let c : sum_by f xs ≡ sum_by g xs = sums-agree f g xs h.1 in
    let d : f x ≡ g x = h.0 in omega arith

pub sum-none : {X : Type 0} (f : X → ℕ) (xs : List X) → AllByRecursion (λ x. f x ≡ 0) xs
    → sum_by f xs ≡ 0
sum-none f [] h = refl
sum-none f (x ∷ xs) h =
    let a : sum_by f (x ∷ xs) ≡ f x + sum_by f xs = sum_by-cons f x xs in
    let c : sum_by f xs ≡ 0 = sum-none f xs h.1 in
    let d : f x ≡ 0 = h.0 in omega arith

pub none-each : {X : Type 0} (f : X → ℕ) (xs : List X) → sum_by f xs ≡ 0
    → AllByRecursion (λ x. f x ≡ 0) xs
none-each f [] h = tt
none-each f (x ∷ xs) h =
    let a : sum_by f (x ∷ xs) ≡ f x + sum_by f xs = sum_by-cons f x xs in
    (omega arith, none-each f xs (omega arith))

pub sum-mapped : {X Y : Type 0} (f : Y → ℕ) (m : X → Y) (xs : List X)
    → sum_by f (map m xs) ≡ sum_by (λ x. f (m x)) xs
sum-mapped f m [] = refl
sum-mapped f m (x ∷ xs) =
    let a : sum_by f (m x ∷ map m xs) ≡ f (m x) + sum_by f (map m xs) =
    sum_by-cons f (m x) (map m xs) in
    let b : sum_by (λ x. f (m x)) (x ∷ xs) ≡ f (m x) + sum_by (λ x. f (m x)) xs =
    sum_by-cons (λ x. f (m x)) x xs in
    let c : sum_by f (map m xs) ≡ sum_by (λ x. f (m x)) xs = sum-mapped f m xs in omega arith

pub all-each : {X : Type 0} (P : X → Type 0) (xs : List X) → ((x : X) → P x) → AllByRecursion P xs
all-each P [] h = tt
all-each P (x ∷ xs) h = (h x, all-each P xs h)
