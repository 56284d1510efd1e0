-- Sets of names while nodes are added.
use Rattle.abbreviation_memo.specs.Private.NameSets.{AreSets, IsWithin, SetsStay, branch_along}
use Rattle.abbreviation_memo.specs.Private.NameSets.{branch_at, is_in, no_names, side}
use Rattle.abbreviation_memo.specs.declared.name_sets.Branch.{Branch}
use Rattle.std.proofs.Common.{List, [], ap, arith, false, length, length-append, refl, reverse, ℕ}
use Rattle.std.proofs.Common.{◌%◌, ◌++◌, ◌/◌, ◌<◌, ◌==◌, ◌||◌, ◌∙◌, ◌∷◌, ◌≡◌, ◌≢◌}
use Rattle.std.proofs.Math.{ListN.get_or-append, Seq.get_or-append_seam}
use Rattle.std.proofs.lemmas.{Int.Digits.digits_of_step, List.{get_or_past, reverse-append}}
use Rattle.std.{proofs.lemmas.Option.slice_get_within, specs.Int.Digits.digits_of}

-- ---- a name by its bits

pub is_in_zero : (bs : List Branch) (set : ℕ) → is_in bs set 0 ≡ (branch_at bs set).ends
unfolding is_in
is_in_zero bs set = refl

pub is_in_more : (bs : List Branch) (set name : ℕ) → 0 < name
    → is_in bs set name ≡ is_in bs (side (branch_at bs set) (name % 2)) (name / 2)
unfolding is_in
is_in_more bs set name more =
    let bits : reverse (digits_of 2 name) ≡ name % 2 ∷ reverse (digits_of 2 (name / 2)) =
    ap reverse (digits_of_step 2 name (omega arith) more)
    ∙ reverse-append (digits_of 2 (name / 2)) (name % 2 ∷ []) in
    ap (λ (ys : List ℕ). (branch_along bs set ys).ends) bits

-- ---- nodes

side-within : (bs : List Branch) (set bit : ℕ) → AreSets bs
    → side (branch_at bs set) bit < length bs
side-within bs set bit sets =
    let some : 0 < length bs = slice_get_within bs 0 no_names sets.empty in
    grind (arith, sets.within set no_names, get_or_past bs set no_names)

-- bits lead to the same node after nodes are added
along-stays : (bs more : List Branch) (bits : List ℕ) (set : ℕ) → AreSets bs → set < length bs
    → branch_along (bs ++ more) set bits ≡ branch_along bs set bits
along-stays bs more [] set sets lt = get_or-append bs more no_names set lt
along-stays bs more (bit ∷ bits) set sets lt =
    rw (get_or-append bs more no_names set lt)
    (along-stays bs more bits (side (branch_at bs set) bit) sets (side-within bs set bit sets))

pub stay_more : (bs now more : List Branch) → AreSets bs → now ≡ bs ++ more → SetsStay bs now
unfolding is_in
stay_more bs now more sets is = rw is (record {
  longer = omega (arith, length-append bs more);
  same = λ set name lt. ap (λ (b : Branch). b.ends)
      (along-stays bs more (reverse (digits_of 2 name)) set sets lt);
})

-- ---- a set with one more name

abbrev pub HasMore : List Branch → List Branch → ℕ → ℕ → ℕ → Type 0
HasMore old new set more name = (x : ℕ) → is_in new more x ≡ ((x == name) || is_in old set x)

pub branch-last : (bs now : List Branch) (set : ℕ) (b : Branch) → set ≡ length bs
    → now ≡ bs ++ b ∷ [] → branch_at now set ≡ b
branch-last bs now set b last is = rw (last, is) (get_or-append_seam bs b [] no_names)

-- a name with more bits; the set for the rest of its bits has the rest of the name
pub more-bits : (old mid new : List Branch) (set behind more name : ℕ) (b turned : Branch)
    → b ≡ branch_at old set → IsWithin (length old) b → 0 < name → more ≡ length mid
    → new ≡ mid ++ turned ∷ [] → behind < length mid
    → turned.ends ≡ b.ends → side turned (name % 2) ≡ behind
    → ((bit : ℕ) → bit < 2 → bit ≢ name % 2 → side turned bit ≡ side b bit)
    → SetsStay old mid → SetsStay mid new → HasMore old mid (side b (name % 2)) behind (name / 2)
    → HasMore old new set more name
more-bits old mid new set behind more name b turned there within some last is in_mid ends turn
    others first second rest x = grind (
      arith,
      branch-last mid new more turned last is,
      is_in_zero new more,
      is_in_zero old set,
      is_in_more new more x,
      is_in_more old set x,
      others (x % 2),
      rest (x / 2),
      first.same (side b (x % 2)) (x / 2),
      second.same (side turned (x % 2)) (x / 2),
    )

-- the empty set has no names
pub none-in : (bs : List Branch) (name : ℕ) → bs ≡ no_names ∷ [] → is_in bs 0 name ≡ false
unfolding is_in
none-in bs name is = rw is (nowhere (reverse (digits_of 2 name)))
  where
    sides : (bit : ℕ) → side (branch_at (no_names ∷ []) 0) bit ≡ 0
    sides bit = grind arith

    nowhere : (bits : List ℕ) → (branch_along (no_names ∷ []) 0 bits).ends ≡ false
    nowhere [] = refl
    nowhere (bit ∷ bits) = rw (branch_along, sides bit) (nowhere bits)
