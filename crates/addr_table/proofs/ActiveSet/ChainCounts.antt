-- The counts of a set, with one more range of each key of a chain.
use Rattle.std.proofs.Common.{◌≡◌, ◌∙◌, ℕ, ◌+◌, ◌-◌, ◌<◌, List, [], ◌∷◌, ◌++◌, length, set}
use Rattle.std.proofs.Common.{get_or, Bool, true, false, ◌||◌, refl, ap, arith}
use Rattle.std.specs.Prelude.{◌==◌}
use Rattle.std.specs.List.{AllByRecursion, list_any}
use Rattle.std.proofs.lemmas.Bool.Decides.{nat_tests}
use Rattle.std.proofs.lemmas.List.{length-set, get_or-set_same, get_or-set_other, set-set}
use Rattle.std.proofs.lemmas.List.{set-get_or, set_comm}
use Rattle.addr_table.specs.Private.ActiveChain.{counts_with_keys}
use Rattle.addr_table.specs.Private.Bits.{is_filled}
use Rattle.addr_table.proofs.ActiveSet.FilledLaws.{filled-put}

-- one more range of a key
abbrev pub with_one : List ℕ → ℕ → List ℕ
with_one counts key = set counts key (get_or counts key 0 + 1)

-- ---- the last key

pub counts-last : (keys : List ℕ) (key : ℕ) (counts : List ℕ)
    → counts_with_keys (keys ++ key ∷ []) counts ≡ with_one (counts_with_keys keys counts) key
counts-last [] key counts = refl
counts-last (k ∷ keys) key counts = counts-last keys key (with_one counts k)

-- one range less undoes one more
pub counts-undone : (counts : List ℕ) (key : ℕ) → key < length counts
    → set (with_one counts key) key (get_or (with_one counts key) key 0 - 1) ≡ counts
counts-undone counts key lt =
    let here : get_or (with_one counts key) key 0 ≡ get_or counts key 0 + 1 =
    get_or-set_same counts key (get_or counts key 0 + 1) 0 lt in
    let less : get_or (with_one counts key) key 0 - 1 ≡ get_or counts key 0 = omega arith in
    set-set counts key (get_or counts key 0 + 1) (get_or (with_one counts key) key 0 - 1)
    ∙ ap (λ n. set counts key n) less ∙ set-get_or counts key 0

-- ---- other keys

pub counts-length : (keys counts : List ℕ) → length (counts_with_keys keys counts) ≡ length counts
counts-length [] counts = refl
counts-length (k ∷ keys) counts =
    counts-length keys (with_one counts k) ∙ length-set counts k (get_or counts k 0 + 1)

-- the count of a key below the keys of the chain
pub counts-below : (keys : List ℕ) (r : ℕ) (counts : List ℕ) → AllByRecursion (λ k. r < k) keys
    → get_or (counts_with_keys keys counts) r 0 ≡ get_or counts r 0
counts-below [] r counts h = refl
counts-below (k ∷ keys) r counts h =
    let lt : r < k = h.0 in
    counts-below keys r (with_one counts k) h.1
    ∙ get_or-set_other counts k r (get_or counts k 0 + 1) 0 (λ e. absurd (omega arith))

-- it can change before the others or after them
pub counts-set : (keys : List ℕ) (r v : ℕ) (counts : List ℕ) → AllByRecursion (λ k. r < k) keys
    → counts_with_keys keys (set counts r v) ≡ set (counts_with_keys keys counts) r v
counts-set [] r v counts h = refl
counts-set (k ∷ keys) r v counts h =
    let lt : r < k = h.0 in
    let same : get_or (set counts r v) k 0 ≡ get_or counts k 0 =
    get_or-set_other counts r k v 0 (λ e. absurd (omega arith)) in
    ap (λ n. counts_with_keys keys (set (set counts r v) k (n + 1))) same
    ∙ ap (counts_with_keys keys)
    (set_comm counts r k v (get_or counts k 0 + 1) (λ e. absurd (omega arith)))
    ∙ counts-set keys r v (with_one counts k) h.1

-- ---- the keys that have a range

or-moved : (any one was : Bool) → (any || (one || was)) ≡ ((one || any) || was)
or-moved true true was = refl
or-moved true false was = refl
or-moved false true was = refl
or-moved false false was = refl

same-test : (a b : ℕ) → (a == b) ≡ (b == a)
same-test a b = grind (arith, nat_tests)

pub counts-filled : (keys counts : List ℕ) (j n : ℕ) → length counts ≡ n
    → AllByRecursion (λ k. k < n) keys
    → is_filled (counts_with_keys keys counts) j
    ≡ (list_any (λ k. k == j) keys || is_filled counts j)
counts-filled [] counts j n len h = refl
counts-filled (k ∷ keys) counts j n len h =
    let lt : k < n = h.0 in
    let within : k < length counts = omega arith in
    counts-filled keys (with_one counts k) j n (length-set counts k (get_or counts k 0 + 1) ∙ len)
    h.1
    ∙ ap (λ b. list_any (λ k. k == j) keys || b)
    (filled-put counts k (get_or counts k 0 + 1) j within (omega arith))
    ∙ or-moved (list_any (λ k. k == j) keys) (j == k) (is_filled counts j)
    ∙ ap (λ b. (b || list_any (λ k. k == j) keys) || is_filled counts j) (same-test j k)
