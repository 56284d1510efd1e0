-- Binary search among modules in ascending order of address.
use Rattle.std.proofs.Common.{◌≡◌, ◌⊎◌, inl, inr, ℕ, ◌+◌, ◌-◌, ◌/◌, ◌<◌, ◌≤◌, Bool, true, false}
use Rattle.std.proofs.Common.{List, length, get_or, refl, arith}
use Rattle.std.specs.Prelude.{None, Some, position, nat_lt, nat_le, ◌&&◌}
use Rattle.std.proofs.lemmas.Bool.{ltb-true, lt-ltb, le-leb, leb-true, cases_lt}
use Rattle.addr_table.specs.Steps.{bits, counted}
use Rattle.addr_table.specs.declared.steps.Steps.{Steps}
use Rattle.addr_table.proofs.Searching.StepLaws.{counted-one}
use Rattle.module_map.specs.World.{start_of, end_of, holds}
use Rattle.module_map.specs.Private.Serials.{NumberedModule}
use Rattle.module_map.specs.Private.Rising.{AreRising, CountsStarted}
use Rattle.module_map.proofs.BinarySearch.{Halved, halved-more, halved-all}
use Rattle.module_map.proofs.Positions.{is_at, is_nowhere}

-- the number is at least `low` and at most `high`
pub record Narrowed (sorted : List NumberedModule) (address low high : ℕ)
    (before now : Steps) : Type
    0 where
  pub order : low ≤ high
  pub within : high ≤ length sorted
  pub begins : (k : ℕ) (d : NumberedModule) → k + 1 ≡ low
      → start_of (get_or sorted k d).loaded ≤ address
  pub later : (k : ℕ) (d : NumberedModule) → high ≤ k → k < length sorted
      → address < start_of (get_or sorted k d).loaded
  pub used : ℕ
  pub first : (low ≡ 0) ⊎ (1 ≤ used)
  pub taken : now ≡ counted used before
  pub halved : Halved (length sorted) (high - low) used

pub narrowed-up : (sorted : List NumberedModule) (address low high middle : ℕ)
    (before now then : Steps)
    → Narrowed sorted address low high before now → low < high
    → middle ≡ low + (high - low) / 2 → ((d : NumberedModule)
    → start_of (get_or sorted middle d).loaded ≤ address) → then ≡ counted 1 now
    → Narrowed sorted address (middle + 1) high before then
narrowed-up sorted address low high middle before now then n some is begins taken = record {
  order = let o = n.order in omega arith;
  within = n.within;
  begins = λ k d e. (let same : k ≡ middle = omega arith in rw same (begins d));
  later = n.later;
  used = n.used + 1;
  first = inr (omega arith);
  taken = counted-one n.used before now then n.taken taken;
  halved = halved-more (length sorted) (high - low) (high - (middle + 1)) n.used n.halved
      (omega arith) (let o = n.order in omega arith);
}

pub narrowed-down : (sorted : List NumberedModule) (address low high middle : ℕ)
    (before now then : Steps) → AreRising sorted
    → Narrowed sorted address low high before now → low < high
    → middle ≡ low + (high - low) / 2 → ((d : NumberedModule)
    → address < start_of (get_or sorted middle d).loaded) → then ≡ counted 1 now
    → Narrowed sorted address low middle before then
narrowed-down sorted address low high middle before now then rising n some is begins taken =
    record {
      order = let o = n.order in omega arith;
      within = let o = n.order in let w = n.within in omega arith;
      begins = n.begins;
      later = λ k d le lt. later k d le (cases_lt middle k) lt;
      used = n.used + 1;
      first = inr (omega arith);
      taken = counted-one n.used before now then n.taken taken;
      halved = halved-more (length sorted) (high - low) (middle - low) n.used n.halved (omega arith)
          (let o = n.order in omega arith);
    }
  where
    later : (k : ℕ) (d : NumberedModule) → middle ≤ k → (middle < k) ⊎ (k ≤ middle)
        → k < length sorted
        → address < start_of (get_or sorted k d).loaded
    later k d le (inr here) lt = let same : k ≡ middle = omega arith in rw same (begins d)
    later k d le (inl past) lt =
        let b = begins d in let a = rising.apart middle k d past lt in let s =
        rising.sound middle d (omega arith) in omega arith

pub narrowed-count : (sorted : List NumberedModule) (address low high : ℕ) (before now : Steps)
    → Narrowed sorted address low high before now
    → (n : ℕ) × (n ≤ bits (length sorted)) × ((low ≡ 0) ⊎ (1 ≤ n)) × (now ≡ counted n before)
narrowed-count sorted address low high before now n =
    (n.used, halved-all (length sorted) (high - low) n.used n.halved, n.first, n.taken)

-- ---- the module that contains an address

test-holds : (s e a : ℕ) → s ≤ a → a < e → (nat_le s a && nat_lt a e) ≡ true
test-holds s e a p q = rw (le-leb s a p, lt-ltb a e q) refl

test-below : (s e a : ℕ) → a < s → (nat_le s a && nat_lt a e) ≡ false
test-below s e a p = by (nat_le s a) refl
  where
    by : (b : Bool) → nat_le s a ≡ b → (nat_le s a && nat_lt a e) ≡ false
    by true t = let le = leb-true s a t in absurd (omega arith)
    by false t = rw t refl

test-past : (s e a : ℕ) → e ≤ a → (nat_le s a && nat_lt a e) ≡ false
test-past s e a p = by (nat_le s a) (nat_lt a e) refl
  where
    by : (b c : Bool) → nat_lt a e ≡ c → (b && c) ≡ false
    by b true t = let lt = ltb-true a e t in absurd (omega arith)
    by true false t = refl
    by false false t = refl

module _ (sorted : List NumberedModule) (address n : ℕ) (rising : AreRising sorted)
    (started : CountsStarted sorted address n) where
  -- modules before the last one that starts at or before the address end at or before the address
  pub passed : (k : ℕ) (d : NumberedModule) → k + 1 < n
      → end_of (get_or sorted k d).loaded ≤ address
  passed k d lt =
      let a = rising.apart k (n - 1) d (omega arith) (let w = started.within in omega arith) in
      let b = started.before (n - 1) d (omega arith) in
      omega arith

  -- a module at another index does not contain the address
  others : (k : ℕ) (d : NumberedModule) → k < length sorted → (k + 1 < n) ⊎ (n ≤ k)
      → holds address (get_or sorted k d).loaded ≡ false
  others k d lt (inl before) = test-past _ _ address (passed k d before)
  others k d lt (inr after) = test-below _ _ address (started.after k d after lt)

  pub located : (at : ℕ) → at + 1 ≡ n → ((d : NumberedModule)
      → address < end_of (get_or sorted at d).loaded)
      → position (λ h. holds address h.loaded) sorted ≡ Some at
  located at last ends = is_at (λ (h : NumberedModule). holds address h.loaded) sorted at
      (let w = started.within in omega arith)
      (λ d. test-holds _ _ address (started.before at d last) (ends d))
      (λ k d lt. test-past _ _ address (passed k d (omega arith)))

  pub located_nowhere : ((at : ℕ) (d : NumberedModule) → at + 1 ≡ n
      → end_of (get_or sorted at d).loaded ≤ address)
      → position (λ h. holds address h.loaded) sorted ≡ None
  located_nowhere past =
      is_nowhere (λ (h : NumberedModule). holds address h.loaded) sorted
      (λ k d lt. at_place k d lt (cases_lt (k + 1) n) (cases_lt k n))
    where
      at_place : (k : ℕ) (d : NumberedModule) → k < length sorted → (k + 1 < n) ⊎ (n ≤ k + 1)
          → (k < n) ⊎ (n ≤ k)
          → holds address (get_or sorted k d).loaded ≡ false
      at_place k d lt (inl before) from = others k d lt (inl before)
      at_place k d lt (inr to) (inr after) = others k d lt (inr after)
      at_place k d lt (inr to) (inl last) = test-past _ _ address (past k d (omega arith))
