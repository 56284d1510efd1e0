-- The first NUL at or after an offset, by blocks.
use Rattle.std.proofs.Common.{◌≡◌, ℕ, zero, suc, ◌+◌, ◌-◌, ◌<◌, ◌≤◌, List, [], ◌∷◌, Bool, true}
use Rattle.std.proofs.Common.{false, length, take, drop, get_or, refl, ap, sym, ◌∙◌, arith}
use Rattle.std.specs.Prelude.{Option, Some, None, option_map, position, ◌==◌, nat_lt, not}
use Rattle.std.specs.List.{prefix_len}
use Rattle.std.proofs.lemmas.Bool.{lt-ltb}
use Rattle.std.proofs.lemmas.List.{drop_all, drop-drop}
use Rattle.bstr.specs.Find.{IsFirstByte, is_byte}
use Rattle.dwarf_bytes.specs.Private.Nuls.{nul_from, block_len}

-- the first index that satisfies a test, after an element that does not
pub position-skip : {X : Type 0} (p : X → Bool) (x : X) (xs : List X) → p x ≡ false
    → position p (x ∷ xs) ≡ option_map (λ n. 1 + n) (position p xs)
position-skip {X = X} p x xs is = by_len (prefix_len (λ y. not (p y)) xs) refl
  where
    at_len : (n : ℕ) (b : Bool) → nat_lt n (length xs) ≡ b → nat_lt (1 + n) (length (x ∷ xs)) ≡ b
    at_len n true h = lt-ltb (1 + n) (length (x ∷ xs)) (omega (arith, ltb-lt n (length xs) h))
      where
        ltb-lt : (a b : ℕ) → nat_lt a b ≡ true → a < b
        ltb-lt a b h = grind (arith, h)
    at_len n false h = grind (arith, h)

    by_len : (n : ℕ) → prefix_len (λ y. not (p y)) xs ≡ n
        → position p (x ∷ xs) ≡ option_map (λ n. 1 + n) (position p xs)
    by_len n len = by_test (nat_lt n (length xs)) refl
      where
        by_test : (b : Bool) → nat_lt n (length xs) ≡ b
            → position p (x ∷ xs) ≡ option_map (λ n. 1 + n) (position p xs)
        by_test true fits = rw (is, len, fits, at_len n true fits) refl
        by_test false past = rw (is, len, past, at_len n false past) refl

pub position-first : {X : Type 0} (p : X → Bool) (x : X) (xs : List X) → p x ≡ true
    → position p (x ∷ xs) ≡ Some 0
position-first p x xs is =
    let some : nat_lt 0 (length (x ∷ xs)) ≡ true = lt-ltb 0 (length (x ∷ xs)) (omega arith) in
    rw (is, some) refl

-- an index that satisfies a test is the first one if no smaller index does
position-is : (p : ℕ → Bool) (xs : List ℕ) (i : ℕ) → i < length xs → p (get_or xs i 0) ≡ true
    → ((k : ℕ) → k < i → p (get_or xs k 0) ≡ false) → position p xs ≡ Some i
position-is p [] i within picks none = absurd (omega (arith, within))
position-is p (x ∷ xs) zero within picks none = position-first p x xs picks
position-is p (x ∷ xs) (suc i) within picks none =
    position-skip p x xs (none 0 (omega arith)) ∙ (ap (λ (n : Option ℕ). option_map (λ n. 1 + n) n)
    (position-is p xs i (omega (arith, within)) picks (λ k lt. none (suc k) (omega (arith, lt))))
    ∙ ap (λ (n : ℕ). Some n) (omega arith))

pub position-none : (p : ℕ → Bool) (xs : List ℕ)
    → ((k : ℕ) → k < length xs → p (get_or xs k 0) ≡ false)
    → position p xs ≡ None
position-none p [] none = refl
position-none p (x ∷ xs) none =
    position-skip p x xs (none 0 (omega arith)) ∙ ap (λ (n : Option ℕ). option_map (λ n. 1 + n) n)
    (position-none p xs (λ k lt. none (suc k) (omega (arith, lt))))

-- the byte that a search finds is the first NUL
pub found-first : (bytes : List ℕ) (found : Option ℕ) → IsFirstByte (is_byte 0) bytes found
    → found ≡ position (λ b. b == 0) bytes
found-first bytes None nowhere =
    sym (position-none (λ b. b == 0) bytes
    (λ k lt. not_true (get_or bytes k 0 == 0) (nowhere k (omega arith) lt)))
  where
    not_true : (b : Bool) → (b ≡ true → ⊥) → b ≡ false
    not_true true never = absurd (never refl)
    not_true false never = refl
found-first bytes (Some i) first =
    sym (position-is (λ b. b == 0) bytes i first.0.high first.1
    (λ k lt. not_true (get_or bytes k 0 == 0) (first.0.before k (omega arith) lt)))
  where
    not_true : (b : Bool) → (b ≡ true → ⊥) → b ≡ false
    not_true true never = absurd (never refl)
    not_true false never = refl

same_position : (found : Option ℕ) → found ≡ option_map (λ n. 0 + n) found
same_position None = refl
same_position (Some n) = ap (λ (k : ℕ). Some k) (omega arith)

twice : (j : ℕ) (found : Option ℕ) → option_map (λ n. 1 + n) (option_map (λ n. j + n) found)
    ≡ option_map
    (λ n. suc j + n) found
twice j None = refl
twice j (Some n) = ap (λ (k : ℕ). Some k) (omega arith)

-- if none of the first elements satisfies the test, the first match is among the elements after
-- them
pub none-ahead : {X : Type 0} (p : X → Bool) (xs : List X) (m j : ℕ) → j ≤ m
    → position p (take m xs) ≡ None
    → position p xs ≡ option_map (λ n. j + n) (position p (drop j xs))
none-ahead p xs m zero few none = same_position (position p xs)
none-ahead p [] m (suc j) few none = refl
none-ahead p (x ∷ xs) zero (suc j) few none = absurd (omega (arith, few))
none-ahead p (x ∷ xs) (suc m) (suc j) few none =
    by_test (p x) refl (λ (h : position p (take m xs) ≡ None). none-ahead p xs m j
    (omega (arith, few)) h)
  where
    by_test : (b : Bool) → p x ≡ b → (position p (take m xs) ≡ None
        → position p xs ≡ option_map (λ n. j + n) (position p (drop j xs)))
        → position p (x ∷ xs) ≡ option_map (λ n. suc j + n) (position p (drop j xs))
    by_test true is later = absurd (never (sym (position-first p x (take m xs) is) ∙ none))
      where
        never : (let f : ℕ → Option ℕ = λ z. Some z in f 0) ≡ None → ⊥
        never h = cc
    by_test false is later =
        position-skip p x xs is ∙ (ap (λ (o : Option ℕ). option_map (λ n. 1 + n) o)
        (later (behind (position p (take m xs)) (sym (position-skip p x (take m xs) is) ∙ none)))
        ∙ twice j (position p (drop j xs)))
      where
        behind : (o : Option ℕ) → option_map (λ n. 1 + n) o ≡ None → o ≡ None
        behind None h = refl
        behind (Some n) h = cc

-- a first match among the first elements is the first match of the whole list
pub some-ahead : {X : Type 0} (p : X → Bool) (xs : List X) (m n : ℕ)
    → position p (take m xs) ≡ Some n
    → position p xs ≡ Some n
some-ahead p [] zero n some = some
some-ahead p [] (suc m) n some = some
some-ahead p (x ∷ xs) zero n some = absurd (never some)
  where
    never : None ≡ (let f : ℕ → Option ℕ = λ z. Some z in f n) → ⊥
    never h = cc
some-ahead p (x ∷ xs) (suc m) n some =
    by_test (p x) refl (λ (k : ℕ) (h : position p (take m xs) ≡ Some k). some-ahead p xs m k h)
  where
    by_test : (b : Bool) → p x ≡ b → ((k : ℕ) → position p (take m xs) ≡ Some k
        → position p xs ≡ Some k)
        → position p (x ∷ xs) ≡ Some n
    by_test true is later = position-first p x xs is
        ∙ (sym (position-first p x (take m xs) is) ∙ some)
    by_test false is later =
        position-skip p x xs is ∙ shifted (position p (take m xs)) refl
        (sym (position-skip p x (take m xs) is) ∙ some)
      where
        shifted : (o : Option ℕ) → position p (take m xs) ≡ o → option_map (λ n. 1 + n) o ≡ Some n
            → option_map (λ n. 1 + n) (position p xs) ≡ Some n
        shifted None is h = cc
        shifted (Some k) is h = rw (later k is) h

abbrev pub is_nul : ℕ → Bool
is_nul byte = byte == 0

added : (at j : ℕ) (found : Option ℕ) → option_map (λ n. at + n) (option_map (λ n. j + n) found)
    ≡ option_map
    (λ n. at + j + n) found
added at j None = refl
added at j (Some n) = ap (λ (k : ℕ). Some k) (omega arith)

-- without a NUL in the next block_len bytes, a search may start at any offset among them
pub nul-after : (section : List ℕ) (at j : ℕ) → j ≤ block_len
    → position is_nul (take block_len (drop at section)) ≡ None
    → nul_from section at ≡ nul_from section (at + j)
nul-after section at j near none =
    ap (λ (o : Option ℕ). option_map (λ n. at + n) o)
    (none-ahead is_nul (drop at section) block_len j near none)
    ∙ (ap (λ (xs : List ℕ). option_map (λ n. at + n) (option_map (λ n. j + n) (position is_nul xs)))
    (drop-drop j at section) ∙ added at j (position is_nul (drop (at + j) section)))

pub nul-in-block : (section : List ℕ) (at nul : ℕ)
    → Some nul ≡ option_map (λ n. at + n) (position is_nul (take block_len (drop at section)))
    → Some nul ≡ nul_from section at
nul-in-block section at nul h = by_found (position is_nul (take block_len (drop at section))) refl h
  where
    by_found : (o : Option ℕ) → position is_nul (take block_len (drop at section)) ≡ o
        → Some nul ≡ option_map (λ n. at + n) o → Some nul ≡ nul_from section at
    by_found None is h = cc
    by_found (Some n) is h = rw (some-ahead is_nul (drop at section) block_len n is) h

pub none-in-block : (section : List ℕ) (at : ℕ) → None ≡ option_map (λ n. at + n)
    (position is_nul (take block_len (drop at section)))
    → position is_nul (take block_len (drop at section)) ≡ None
none-in-block section at h = by_found (position is_nul (take block_len (drop at section))) h
  where
    by_found : (o : Option ℕ) → None ≡ option_map (λ n. at + n) o → o ≡ None
    by_found None h = refl
    by_found (Some n) h = cc

-- there is no NUL past the end
pub nul-outside : (section : List ℕ) (at : ℕ) → length section ≤ at → nul_from section at ≡ None
nul-outside section at past =
    ap (λ (xs : List ℕ). option_map (λ n. at + n) (position is_nul xs)) (drop_all at section past)
