-- The index of abbreviation codes.
use Rattle.dwarf_forms.{proofs.Elements.{at-end, at-front, at-last}, specs.Private.Codes.AreCodes}
use Rattle.dwarf_forms.specs.Private.Codes.{is_code_at}
use Rattle.std.proofs.Common.{AllPairs, Bool, List, Some, [], arith, cond, false, get_or}
use Rattle.std.proofs.Common.{if◌then◌else◌, is_some, length, position, refl, slice_get, ℕ, ◌++◌}
use Rattle.std.proofs.{Common.{◌+◌, ◌-◌, ◌==◌, ◌∷◌, ◌≡◌, ◌≢◌, ◌⊎◌}, lemmas.Grind.common_steps}
use Rattle.std.proofs.lemmas.List.{Folds.list_any_at, Quantifiers.{all_pairs_push, position-Some}}
use Rattle.std.proofs.lemmas.{List.Sums.position_or_len_is, Option.get_or_from_slice_get}
use Rattle.std.{proofs.lemmas.Option.{slice_get-get_or, slice_get_within}, specs.BTreeMap.BTreeMap}
use Rattle.std.specs.{BTreeMap.{get, is_at}, List.{list_any, position_or_len}, Ordering.nat_cmp}

abbrev pub is_code : ℕ → ℕ → Bool
is_code code other = other == code

-- no element is a code that the list lacks
lacks : (xs : List ℕ) (code : ℕ) → list_any (is_code code) xs ≡ false
    → (i d : ℕ) → slice_get xs i ≡ Some d → d ≢ code
lacks xs code none i d at is =
    let any = list_any_at (is_code code) xs i d (slice_get_within xs i d at) in
    grind (arith, any, get_or_from_slice_get xs i d d at)

-- ---- the position of a code

-- a search finds an index if and only if some element satisfies the predicate
pub is_some_position : {X : Type 0} (p : X → Bool) (xs : List X)
    → is_some (position p xs) ≡ list_any p xs
is_some_position p [] = refl
is_some_position p (x ∷ xs) = let rest = is_some_position p xs in grind (arith, common_steps)

-- a code that is at an index
place-is : (xs : List ℕ) (i code : ℕ) → AllPairs (λ a b. a ≢ b) xs → slice_get xs i ≡ Some code
    → position (is_code code) xs ≡ Some i
place-is xs i code once at =
    let within = slice_get_within xs i code at in
    let here = get_or_from_slice_get xs i code code at in
    let first : position_or_len (is_code code) xs ≡ i =
    position_or_len_is (is_code code) xs i code (omega arith)
    (λ k lt. grind (arith, once k i code lt within, here)) (λ _. grind (arith, here)) in
    grind arith

-- the code that a search finds is at the index
code-there : (xs : List ℕ) (i code : ℕ) → position (is_code code) xs ≡ Some i
    → slice_get xs i ≡ Some code
code-there xs i code is =
    let found = position-Some (is_code code) xs i 0 is in
    grind (arith, found.0, found.1, slice_get-get_or xs i 0)

-- A code is at the index before it, or has its index in the map.
pub code-position : (xs : List ℕ) (moved : BTreeMap ℕ ℕ) (code : ℕ) → AreCodes xs moved
    → position (is_code code) xs
    ≡ (if is_code_at xs (code - 1) code then Some (code - 1) else get nat_cmp moved code)
code-position xs moved code are =
    let there : (i : ℕ) → slice_get xs i ≡ Some code → position (is_code code) xs ≡ Some i =
    λ i. place-is xs i code are.once in
    let first : ℕ = position_or_len (is_code code) xs in
    grind (
      arith,
      there (code - 1),
      λ (i : ℕ) (at : get nat_cmp moved code ≡ Some i). there i (are.placed code i at),
      are.found first code,
      code-there xs first code,
    )

-- ---- one more code

-- the code is at the index before it, or it is put into the map
pub code-push : (xs now : List ℕ) (moved next : BTreeMap ℕ ℕ) (y place : ℕ)
    → list_any (is_code y) xs ≡ false → now ≡ xs ++ y ∷ [] → place ≡ length xs
    → ((q : ℕ) → ((y ≡ place + 1) × (get nat_cmp next q ≡ get nat_cmp moved q))
    ⊎ (get nat_cmp next q ≡ cond (is_at (nat_cmp y) q) (Some place) (get nat_cmp moved q)))
    → AreCodes xs moved → AreCodes now next
code-push xs now moved next y place none more last puts are = rw more (record {
  once = all_pairs_push (λ a b. a ≢ b) xs y are.once
      (λ k d within. lacks xs y none k (get_or xs k d) (slice_get-get_or xs k d within));
  found = λ i d at. grind (
    arith,
    common_steps,
    at-last xs y d i at,
    are.found i d,
    lacks xs y none i d,
    puts d,
  );
  placed = λ q i at. grind (
    arith,
    common_steps,
    puts q,
    are.placed q i,
    at-end xs y i,
    at-front xs (y ∷ []) i q,
  );
})
