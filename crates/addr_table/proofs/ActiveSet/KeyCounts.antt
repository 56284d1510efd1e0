-- The counts of keys, by a bit for the first range and a number for the further ones.
use Rattle.std.proofs.Common.{◌≡◌, ◌≢◌, ◌∙◌, ℕ, ◌+◌, ◌-◌, ◌<◌, ◌≤◌, List, length, set, get_or}
use Rattle.std.proofs.Common.{Bool, true, false, not, cond, ◌&&◌, ◌||◌, ap, sym, subst, inl}
use Rattle.std.proofs.Common.{inr, arith}
use Rattle.std.specs.Prelude.{◌==◌}
use Rattle.std.proofs.lemmas.Bool.{cases_eq, cases_lt, false≢true}
use Rattle.std.proofs.lemmas.Bool.Decides.{nat_tests}
use Rattle.std.proofs.Math.ListN.{get_or-eq_default}
use Rattle.std.proofs.lemmas.List.{length-set, length-replicate, get_or-set_same, get_or-set_other}
use Rattle.std.proofs.lemmas.List.FromFn.{length-map-range_with_len, get_or-map-range_with_len}
use Rattle.std.proofs.lemmas.List.FromFn.{fill_by_all}
use Rattle.addr_table.specs.Private.Active.{count_at, counts_of}
use Rattle.addr_table.specs.Private.Bits.{has, is_filled}
use Rattle.addr_table.proofs.ActiveSet.ActiveLaws.{SetsBit, ClearsBit, zeros_of, zeros}

pub counts-length : (keys : ℕ) (words further : List ℕ) → length (counts_of keys words further)
    ≡ keys
counts-length keys words further = length-map-range_with_len (count_at words further) 0 keys

pub counts-at : (keys : ℕ) (words further : List ℕ) (k : ℕ) → k < keys
    → get_or (counts_of keys words further) k 0 ≡ count_at words further k
counts-at keys words further k lt =
    get_or-map-range_with_len (count_at words further) 0 keys k k 0 lt (omega arith)

pub key-below : (keys : ℕ) (words further : List ℕ) (key : ℕ)
    → key < length (counts_of keys words further) → key < keys
key-below keys words further key lt = omega (arith, lt, counts-length keys words further)

-- if one count changes, the others stay
pub counts-set : (keys : ℕ) (words further words' further' : List ℕ) (key v : ℕ) → key < keys
    → count_at words' further' key ≡ v
    → ((j : ℕ) → j ≢ key → count_at words' further' j ≡ count_at words further j)
    → counts_of keys words' further' ≡ set (counts_of keys words further) key v
counts-set keys words further words' further' key v lt here others =
    sym (fill_by_all (count_at words' further') (set (counts_of keys words further) key v) keys 0
    (length-set (counts_of keys words further) key v ∙ counts-length keys words further) each)
  where
    within : key < length (counts_of keys words further)
    within = omega (arith, lt, counts-length keys words further)

    each : (k : ℕ) → k < keys → get_or (set (counts_of keys words further) key v) k 0
        ≡ count_at words' further' k
    each k is = elim (cases_eq k key) [
      | inl same ↦
          let P : ℕ → Type 0 = λ j. get_or (set (counts_of keys words further) key v) j 0
          ≡ count_at words' further' j in
          subst P (sym same) (get_or-set_same (counts_of keys words further) key v 0 within
          ∙ sym here)
      | inr other ↦
          get_or-set_other (counts_of keys words further) key k v 0 other
          ∙ counts-at keys words further k is ∙ sym (others k other)
    ]

one-more : (b : Bool) (n : ℕ) → b ≡ true → cond b 1 0 + n ≡ 1 + n
one-more true n is = omega arith
one-more false n is = absurd (false≢true is)

no-more : (b : Bool) (n : ℕ) → b ≡ false → cond b 1 0 + n ≡ n
no-more true n is = absurd (false≢true (sym is))
no-more false n is = omega arith

-- the count of a key whose bit becomes set
pub counts-first : (keys : ℕ) (words further words' : List ℕ) (key : ℕ) → key < keys
    → has words key ≡ false → SetsBit words words' key
    → counts_of keys words' further
    ≡ set (counts_of keys words further) key (get_or (counts_of keys words further) key 0 + 1)
counts-first keys words further words' key lt unset sets =
    let same : (key == key) ≡ true = grind (arith, nat_tests) in
    let is_set : has words' key ≡ true = sets key ∙ ap (λ b. b || has words key) same in
    let old : get_or (counts_of keys words further) key 0 ≡ get_or further key 0 =
    counts-at keys words further key lt ∙ no-more (has words key) (get_or further key 0) unset in
    let new : count_at words' further key ≡ 1 + get_or further key 0 =
    one-more (has words' key) (get_or further key 0) is_set in
    counts-set keys words further words' further key _ lt (omega (arith, new, old))
    (λ j other. let differs : (j == key) ≡ false = grind (arith, nat_tests) in
    ap (λ b. cond b 1 0 + get_or further j 0) (sets j ∙ ap (λ b. b || has words j) differs))

-- the count of a key with one more further range
pub counts-more : (keys : ℕ) (words further further' : List ℕ) (key : ℕ) → key < keys
    → get_or further' key 0 ≡ get_or further key 0 + 1
    → ((j : ℕ) → j ≢ key → get_or further' j 0 ≡ get_or further j 0)
    → counts_of keys words further'
    ≡ set (counts_of keys words further) key (get_or (counts_of keys words further) key 0 + 1)
counts-more keys words further further' key lt here others =
    let old = counts-at keys words further key lt in
    counts-set keys words further words further' key _ lt (omega (arith, here, old))
    (λ j other. ap (λ n. cond (has words j) 1 0 + n) (others j other))

-- the count of a key with one further range less
pub counts-less : (keys : ℕ) (words further : List ℕ) (key : ℕ) → key < keys
    → 0 < get_or further key 0
    → counts_of keys words (set further key (get_or further key 0 - 1))
    ≡ set (counts_of keys words further) key (get_or (counts_of keys words further) key 0 - 1)
counts-less keys words further key lt some =
    let within : key < length further = elim (cases_lt key (length further)) [
      | inl is ↦ is
      | inr past ↦ absurd (omega (arith, some, beyond further key past))
    ] in
    let here : get_or (set further key (get_or further key 0 - 1)) key 0
    ≡ get_or further key 0 - 1 =
    get_or-set_same further key (get_or further key 0 - 1) 0 within in
    let old = counts-at keys words further key lt in
    counts-set keys words further words (set further key (get_or further key 0 - 1)) key _ lt
    (omega (arith, here, old, some))
    (λ j other. ap (λ n. cond (has words j) 1 0 + n)
    (get_or-set_other further key j (get_or further key 0 - 1) 0 other))
  where
    beyond : (xs : List ℕ) (k : ℕ) → length xs ≤ k → get_or xs k 0 ≡ 0
    beyond xs k past = get_or-eq_default xs 0 past

-- the count of a key whose bit is cleared
pub counts-none : (keys : ℕ) (words further words' : List ℕ) (key : ℕ) → key < keys
    → has words key ≡ true → get_or further key 0 ≡ 0 → ClearsBit words words' key
    → counts_of keys words' further
    ≡ set (counts_of keys words further) key (get_or (counts_of keys words further) key 0 - 1)
counts-none keys words further words' key lt is_set none clears =
    let same : (key == key) ≡ true = grind (arith, nat_tests) in
    let unset : has words' key ≡ false =
    clears key ∙ ap (λ b. not b && has words key) same in
    let old : get_or (counts_of keys words further) key 0 ≡ 1 + get_or further key 0 =
    counts-at keys words further key lt ∙ one-more (has words key) (get_or further key 0) is_set in
    let new : count_at words' further key ≡ get_or further key 0 =
    no-more (has words' key) (get_or further key 0) unset in
    counts-set keys words further words' further key _ lt (omega (arith, new, old, none))
    (λ j other. let differs : (j == key) ≡ false = grind (arith, nat_tests) in
    ap (λ b. cond b 1 0 + get_or further j 0)
    (clears j ∙ ap (λ b. not b && has words j) differs))

-- the counts of an empty set
pub counts-new : (keys n : ℕ) (further : List ℕ) → ((k : ℕ) → has (zeros_of n) k ≡ false)
    → ((k : ℕ) → get_or further k 0 ≡ 0) → counts_of keys (zeros_of n) further ≡ zeros_of keys
counts-new keys n further unset none =
    sym (fill_by_all (count_at (zeros_of n) further) (zeros_of keys) keys 0
    (length-replicate {A = ℕ} keys 0)
    (λ k lt. zeros keys k ∙ sym (no-more (has (zeros_of n) k) (get_or further k 0) (unset k)
    ∙ none k)))

-- the count of a key whose bit is set is not 0
pub some-count : (keys : ℕ) (words further : List ℕ) (key : ℕ) → key < keys
    → has words key ≡ true → 0 < get_or (counts_of keys words further) key 0
some-count keys words further key lt is_set =
    let at : get_or (counts_of keys words further) key 0 ≡ 1 + get_or further key 0 =
    counts-at keys words further key lt ∙ one-more (has words key) (get_or further key 0) is_set in
    omega (arith, at)

-- the only range of a key
pub last-count : (keys : ℕ) (words further : List ℕ) (key : ℕ) → key < keys
    → is_filled further key ≡ false → 0 < get_or (counts_of keys words further) key 0
    → get_or (counts_of keys words further) key 0 - 1 ≡ 0
last-count keys words further key lt unfilled some =
    let zero : get_or further key 0 ≡ 0 = grind (arith, nat_tests) in
    let at = counts-at keys words further key lt in
    let most = most (has words key) in omega (arith, zero, at, most)
  where
    most : (b : Bool) → cond b 1 0 ≤ 1
    most true = omega arith
    most false = omega arith

-- a key with a further range has another one
pub further-count : (keys : ℕ) (words further : List ℕ) (key : ℕ) → key < keys
    → has words key ≡ true → 0 < get_or further key 0
    → 0 < get_or (counts_of keys words further) key 0 - 1
further-count keys words further key lt is_set some =
    let at : get_or (counts_of keys words further) key 0 ≡ 1 + get_or further key 0 =
    counts-at keys words further key lt ∙ one-more (has words key) (get_or further key 0) is_set in
    omega (arith, at, some)
