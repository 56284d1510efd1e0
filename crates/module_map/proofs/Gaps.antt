-- A gap among modules in ascending order of address, and the order after it is filled.
use Rattle.std.proofs.Common.{◌≡◌, ◌≢◌, ◌⊎◌, inl, inr, ℕ, ◌+◌, ◌<◌, ◌≤◌, List, length, get_or}
use Rattle.std.proofs.Common.{arith}
use Rattle.std.proofs.lemmas.Bool.{cases_lt}
use Rattle.module_map.specs.World.{start_of, end_of}
use Rattle.module_map.specs.Private.Serials.{NumberedModule}
use Rattle.module_map.specs.Private.Rising.{AreRising, CountsStarted, IsClear, Overlaps, IsOther}
use Rattle.module_map.specs.Private.Rising.{IsNext}
use Rattle.module_map.proofs.Searches.{passed}

pub other-of : (own k : ℕ) → k ≢ own → IsOther own k
other-of own k ne = by (cases_lt k own) (cases_lt own k)
  where
    by : (k < own) ⊎ (own ≤ k) → (own < k) ⊎ (k ≤ own) → IsOther own k
    by (inl below) q = inl below
    by (inr from) (inl above) = inr above
    by (inr from) (inr to) = absurd (ne (omega arith))

pub not-own : (own k : ℕ) → IsOther own k → k ≢ own
not-own own k (inl below) = λ e. omega arith
not-own own k (inr above) = λ e. omega arith

module _ (sorted : List NumberedModule) (own low high n : ℕ) (rising : AreRising sorted)
    (started : CountsStarted sorted low n) (order : low < high) where
  -- the last module that starts at or before the low end ends after it, so it overlaps
  pub met_last : (at : ℕ) → at + 1 ≡ n → at ≢ own
      → ((d : NumberedModule) → low < end_of (get_or sorted at d).loaded)
      → Overlaps sorted own low high at
  met_last at last ne ends = record {
    within = let w = started.within in omega arith;
    other = other-of own at ne;
    begins = λ d. (let b = started.before at d last in omega arith);
    ends = ends;
    before = λ k d lt o. passed sorted low n rising started k d (omega arith);
  }

  -- if a module starts at or after the high end, so do all later ones
  later : (at k : ℕ) (d : NumberedModule) → at ≤ k → k < length sorted
      → ((d : NumberedModule) → high ≤ start_of (get_or sorted at d).loaded)
      → high ≤ start_of (get_or sorted k d).loaded
  later at k d le lt begins = by (cases_lt at k)
    where
      by : (at < k) ⊎ (k ≤ at) → high ≤ start_of (get_or sorted k d).loaded
      by (inl above) = let b = begins d in let a = rising.apart at k d above lt in let s =
          rising.sound at d (omega arith) in omega arith
      by (inr to) = let same : k ≡ at = omega arith in rw same (begins d)

  -- the last module, if it is another one, ends at or before the low end
  module _ (done : (at : ℕ) (d : NumberedModule) → at + 1 ≡ n → IsOther own at
      → end_of (get_or sorted at d).loaded ≤ low) (next : ℕ) (is : IsNext own (length sorted) n
      next)
    where
      ended : (k : ℕ) (d : NumberedModule) → k < n → IsOther own k
          → end_of (get_or sorted k d).loaded ≤ low
      ended k d lt o = by (cases_lt (k + 1) n)
        where
          by : (k + 1 < n) ⊎ (n ≤ k + 1) → end_of (get_or sorted k d).loaded ≤ low
          by (inl before) = passed sorted low n rising started k d before
          by (inr last) = done k d (omega arith) o

      before_next : (k : ℕ) (d : NumberedModule) → k < next → IsOther own k
          → end_of (get_or sorted k d).loaded ≤ low
      before_next k d lt o = by (cases_lt k n)
        where
          by : (k < n) ⊎ (n ≤ k) → end_of (get_or sorted k d).loaded ≤ low
          by (inl before) = ended k d before o
          by (inr from) = absurd (not-own own k o (is.least k from lt))

      pub met_next : next < length sorted → ((d : NumberedModule)
          → start_of (get_or sorted next d).loaded < high)
          → Overlaps sorted own low high next
      met_next lt begins = record {
        within = lt;
        other = is.other lt;
        begins = begins;
        ends = λ d. (let l = started.after next d is.above lt in let s = rising.sound next d lt in
            omega arith);
        before = before_next;
      }

      from_next : (k : ℕ) → n ≤ k → IsOther own k → next ≤ k
      from_next k le o = by (cases_lt k next)
        where
          by : (k < next) ⊎ (next ≤ k) → next ≤ k
          by (inl below) = absurd (not-own own k o (is.least k le below))
          by (inr from) = from

      pub clear_all : (next < length sorted → (d : NumberedModule)
          → high ≤ start_of (get_or sorted next d).loaded)
          → IsClear sorted own low high n
      clear_all begins = record {
        within = started.within;
        under = λ k d lt o. (let e = ended k d lt o in let w = started.within in let s =
            rising.sound k d (omega arith) in omega arith);
        before = ended;
        after = λ k d le lt o. (let f = from_next k le o in
            later next k d f lt (begins (omega arith)));
      }
