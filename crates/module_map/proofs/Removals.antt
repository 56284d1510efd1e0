-- Removing a module, and moving one.
use Rattle.std.proofs.Common.{◌≡◌, ◌≢◌, ◌⊎◌, inl, inr, ℕ, ◌+◌, ◌-◌, ◌<◌, ◌≤◌, Bool, true, false}
use Rattle.std.proofs.Common.{List, length, get_or, refl, sym, subst, arith}
use Rattle.std.specs.Prelude.{remove, nat_le, if◌then◌else◌}
use Rattle.std.proofs.lemmas.Bool.{cases_lt, leb-true, leb-false}
use Rattle.std.proofs.lemmas.List.{get_or_default}
use Rattle.std.proofs.lemmas.List.Edits.{length-remove, get_or-remove_below, get_or-remove_above}
use Rattle.module_map.specs.World.{start_of, end_of, moved_to}
use Rattle.module_map.specs.Private.Serials.{NumberedModule}
use Rattle.module_map.specs.Private.Rising.{AreRising, IsClear, IsOther, relocated, rebased}
use Rattle.module_map.proofs.Edits.{rising_insert}

-- ---- removal

-- an element of the list after a removal was there before
record Left (xs ys : List NumberedModule) (at j : ℕ) (d : NumberedModule) : Type 0 where
  place : ℕ
  within : place < length xs
  same : get_or ys j d ≡ get_or xs place d
  side : ((j < at) × (place ≡ j)) ⊎ ((at ≤ j) × (place ≡ j + 1))

left : (xs : List NumberedModule) (at j : ℕ) (d : NumberedModule) → at < length xs
    → j < length (remove xs at)
    → Left xs (remove xs at) at j d
left xs at j d lt in' = by (cases_lt j at)
  where
    by : (j < at) ⊎ (at ≤ j) → Left xs (remove xs at) at j d
    by (inl below) = record {
      place = j;
      within = omega arith;
      same =
          get_or-remove_below xs at d j below lt;
      side = inl (below, refl);
    }
    by (inr from) =
        let n = length-remove xs at lt in
        record {
          place = j + 1;
          within = omega arith;
          same = get_or-remove_above xs at d j from lt;
          side = inr (from, refl);
        }

still-rises : (xs ys : List NumberedModule) (at i j : ℕ) (d : NumberedModule)
    (a : Left xs ys at i d) (b : Left xs ys at j d) → i < j
    → a.place < b.place
still-rises xs ys at i j d a b lt = by a.side b.side
  where
    by : ((i < at) × (a.place ≡ i)) ⊎ ((at ≤ i) × (a.place ≡ i + 1))
        → ((j < at) × (b.place ≡ j)) ⊎ ((at ≤ j) × (b.place ≡ j + 1))
        → a.place < b.place
    by (inl p) (inl q) = omega arith
    by (inl p) (inr q) = omega arith
    by (inr p) (inl q) = absurd (omega arith)
    by (inr p) (inr q) = omega arith

pub rising-remove : (sorted : List NumberedModule) (at : ℕ) → AreRising sorted → at < length sorted
    → AreRising (remove sorted at)
rising-remove sorted at rising lt = record {
  apart = λ i j d below in'. let a = left sorted at i d lt (omega arith) in let b =
      left sorted at j d lt in' in
      rw (a.same, b.same) (rising.apart a.place b.place d
      (still-rises sorted (remove sorted at) at i j d a b below) b.within);
  sound = λ i d in'. let a =
      left sorted at i d lt in' in rw a.same (rising.sound a.place d a.within);
  names = λ i j d below in'. let a = left sorted at i d lt (omega arith) in let b =
      left sorted at j d lt in' in
      rw (a.same, b.same) (rising.names a.place b.place d
      (still-rises sorted (remove sorted at) at i j d a b below) b.within);
}

-- ---- moving

module _ (sorted : List NumberedModule) (own low high at : ℕ)
    (clear : IsClear sorted own low high at)
    (lt : own < length sorted) where
  clear_left : at ≤ own → IsClear (remove sorted own) (length (remove sorted own)) low high at
  clear_left le = let n = length-remove sorted own lt in
      record { within = omega arith; under = under; before = before; after = after }
    where
      under : (k : ℕ) (d : NumberedModule) → k < at → IsOther (length (remove sorted own)) k
          → start_of (get_or (remove sorted own) k d).loaded < low
      under k d below o = rw (get_or-remove_below sorted own d k (omega arith) lt)
          (clear.under k d below (inl (omega arith)))

      before : (k : ℕ) (d : NumberedModule) → k < at → IsOther (length (remove sorted own)) k
          → end_of (get_or (remove sorted own) k d).loaded ≤ low
      before k d below o = rw (get_or-remove_below sorted own d k (omega arith) lt)
          (clear.before k d below (inl (omega arith)))

      after : (k : ℕ) (d : NumberedModule) → at ≤ k → k < length (remove sorted own)
          → IsOther (length (remove sorted own)) k
          → high ≤ start_of (get_or (remove sorted own) k d).loaded
      after k d from in' o = let n = length-remove sorted own lt in by (cases_lt k own)
        where
          by : (k < own) ⊎ (own ≤ k) → high ≤ start_of (get_or (remove sorted own) k d).loaded
          by (inl below) = rw (get_or-remove_below sorted own d k below lt)
              (clear.after k d from (omega arith) (inl below))
          by (inr above) =
              let n = length-remove sorted own lt in
              rw (get_or-remove_above sorted own d k above lt)
              (clear.after (k + 1) d (omega arith) (omega arith) (inr (omega arith)))

  clear_right : own < at
      → IsClear (remove sorted own) (length (remove sorted own)) low high (at - 1)
  clear_right above =
      let n = length-remove sorted own lt in
      let w = clear.within in
      record { within = omega arith; under = under; before = before; after = after }
    where
      under : (k : ℕ) (d : NumberedModule) → k < at - 1 → IsOther (length (remove sorted own)) k
          → start_of (get_or (remove sorted own) k d).loaded < low
      under k d below o = by (cases_lt k own)
        where
          by : (k < own) ⊎ (own ≤ k) → start_of (get_or (remove sorted own) k d).loaded < low
          by (inl less) = rw (get_or-remove_below sorted own d k less lt)
              (clear.under k d (omega arith) (inl less))
          by (inr over) = rw (get_or-remove_above sorted own d k over lt)
              (clear.under (k + 1) d (omega arith) (inr (omega arith)))

      before : (k : ℕ) (d : NumberedModule) → k < at - 1 → IsOther (length (remove sorted own)) k
          → end_of (get_or (remove sorted own) k d).loaded ≤ low
      before k d below o = by (cases_lt k own)
        where
          by : (k < own) ⊎ (own ≤ k) → end_of (get_or (remove sorted own) k d).loaded ≤ low
          by (inl under) = rw (get_or-remove_below sorted own d k under lt)
              (clear.before k d (omega arith) (inl under))
          by (inr over) = rw (get_or-remove_above sorted own d k over lt)
              (clear.before (k + 1) d (omega arith) (inr (omega arith)))

      after : (k : ℕ) (d : NumberedModule) → at - 1 ≤ k → k < length (remove sorted own)
          → IsOther (length (remove sorted own)) k
          → high ≤ start_of (get_or (remove sorted own) k d).loaded
      after k d from in' o =
          let n = length-remove sorted own lt in
          rw (get_or-remove_above sorted own d k (omega arith) lt)
          (clear.after (k + 1) d (omega arith) (omega arith) (inr (omega arith)))

  pub landing_cases : (b : Bool) → nat_le at own ≡ b
      → IsClear (remove sorted own) (length (remove sorted own)) low high (if b then at else at - 1)
  landing_cases true e = clear_left (leb-true at own e)
  landing_cases false e = clear_right (leb-false at own e)

  pub clear_removed : IsClear (remove sorted own) (length (remove sorted own)) low high
      (if nat_le at own then at else at - 1)
  clear_removed = landing_cases (nat_le at own) refl

pub others-named : (sorted : List NumberedModule) (own : ℕ) (rising : AreRising sorted)
    (lt : own < length sorted) (k : ℕ) (d : NumberedModule)
    → k < length (remove sorted own)
    → (get_or (remove sorted own) k d).loaded.name ≢ (get_or sorted own d).loaded.name
others-named sorted own rising lt k d in' = by (cases_lt k own)
  where
    by : (k < own) ⊎ (own ≤ k) → (get_or (remove sorted own) k d).loaded.name ≢
        (get_or sorted own d).loaded.name
    by (inl below) = rw (get_or-remove_below sorted own d k below lt)
        (rising.names k own d below lt)
    by (inr above) =
        let n = length-remove sorted own lt in
        rw (get_or-remove_above sorted own d k above lt)
        (λ e. rising.names own (k + 1) d (omega arith) (omega arith) (sym e))

pub rising-turned : (sorted : List NumberedModule) (own at base : ℕ) (d : NumberedModule)
    → AreRising sorted → own < length sorted
    → IsClear sorted own (start_of (moved_to base (get_or sorted own d).loaded))
    (end_of (moved_to base (get_or sorted own d).loaded)) at
    → AreRising (relocated sorted own at (rebased base (get_or sorted own d)))
rising-turned sorted own at base d rising lt clear =
    rising_insert (remove sorted own) (if nat_le at own then at else at - 1)
    (rebased base (get_or sorted own d)) (rising-remove sorted own rising lt)
    (clear_removed sorted own (start_of (moved_to base (get_or sorted own d).loaded))
    (end_of (moved_to base (get_or sorted own d).loaded)) at clear lt)
    (let s = rising.sound own d lt in omega arith)
    (λ k e in'. let same = get_or_default sorted own e d lt in
    subst (λ (h : NumberedModule). (get_or (remove sorted own) k e).loaded.name ≢ h.loaded.name)
    same (others-named sorted own rising lt k e in'))
