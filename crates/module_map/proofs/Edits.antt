-- The ascending order after a module is inserted, removed or moved.
use Rattle.std.proofs.Common.{◌≡◌, ◌≢◌, ◌⊎◌, inl, inr, ℕ, ◌+◌, ◌-◌, ◌<◌, ◌≤◌, List, length, get_or}
use Rattle.std.proofs.Common.{refl, sym, ap, ◌∙◌, arith}
use Rattle.std.specs.Prelude.{insert}
use Rattle.std.proofs.lemmas.Bool.{cases_lt}
use Rattle.std.proofs.lemmas.List.Edits.{length-insert, get_or-insert_below, get_or-insert_at}
use Rattle.std.proofs.lemmas.List.Edits.{get_or-insert_above}
use Rattle.module_map.specs.World.{start_of, end_of}
use Rattle.module_map.specs.Private.Serials.{NumberedModule}
use Rattle.module_map.specs.Private.Rising.{AreRising, IsClear}

-- ---- insertion

-- an element of the list after an insertion that was there before
record Old (xs ys : List NumberedModule) (at j : ℕ) (d : NumberedModule) : Type 0 where
  place : ℕ
  within : place < length xs
  same : get_or ys j d ≡ get_or xs place d
  side : ((j < at) × (place ≡ j)) ⊎ ((at < j) × (j ≡ place + 1))

spot : (xs : List NumberedModule) (at : ℕ) (h : NumberedModule) (j : ℕ) (d : NumberedModule)
    → at ≤ length xs
    → j < length (insert xs at h) → Old xs (insert xs at h) at j d
    ⊎ ((j ≡ at) × (get_or (insert xs at h) j d ≡ h))
spot xs at h j d le lt = by (cases_lt j at) (cases_lt at j)
  where
    by : (j < at) ⊎ (at ≤ j) → (at < j) ⊎ (j ≤ at) → Old xs (insert xs at h) at j d
        ⊎ ((j ≡ at) × (get_or (insert xs at h) j d ≡ h))
    by (inl below) q =
        inl (record {
          place = j;
          within = omega arith;
          same =
              get_or-insert_below xs at h d j below le;
          side = inl (below, refl);
        })
    by (inr from) (inl above) = let n = length-insert xs at h le in let is : j ≡ (j - 1) + 1 =
        omega arith in
        inl (record {
          place = j - 1;
          within = omega arith;
          same =
              ap (λ k. get_or (insert xs at h) k d) is ∙ get_or-insert_above xs at h d (j - 1)
              (omega arith) le;
          side = inr (above, is);
        })
    by (inr from) (inr to) =
        let is : j ≡ at = omega arith in
        inr (is, ap (λ k. get_or (insert xs at h) k d) is ∙ get_or-insert_at xs at h d le)

rises : (xs ys : List NumberedModule) (at i j : ℕ) (d : NumberedModule) (a : Old xs ys at i d)
    (b : Old xs ys at j d) → i < j
    → a.place < b.place
rises xs ys at i j d a b lt = by a.side b.side
  where
    by : ((i < at) × (a.place ≡ i)) ⊎ ((at < i) × (i ≡ a.place + 1))
        → ((j < at) × (b.place ≡ j)) ⊎ ((at < j) × (j ≡ b.place + 1))
        → a.place < b.place
    by (inl p) (inl q) = omega arith
    by (inl p) (inr q) = omega arith
    by (inr p) (inl q) = absurd (omega arith)
    by (inr p) (inr q) = omega arith

before-new : (xs ys : List NumberedModule) (at i : ℕ) (d : NumberedModule) (a : Old xs ys at i d)
    → i < at → a.place < at
before-new xs ys at i d a lt = by a.side
  where
    by : ((i < at) × (a.place ≡ i)) ⊎ ((at < i) × (i ≡ a.place + 1)) → a.place < at
    by (inl p) = omega arith
    by (inr p) = absurd (omega arith)

after-new : (xs ys : List NumberedModule) (at j : ℕ) (d : NumberedModule) (b : Old xs ys at j d)
    → at < j → at ≤ b.place
after-new xs ys at j d b lt = by b.side
  where
    by : ((j < at) × (b.place ≡ j)) ⊎ ((at < j) × (j ≡ b.place + 1)) → at ≤ b.place
    by (inl p) = absurd (omega arith)
    by (inr p) = omega arith

module _ (sorted : List NumberedModule) (at : ℕ) (h : NumberedModule) (rising : AreRising sorted)
    (clear : IsClear sorted (length sorted) (start_of h.loaded) (end_of h.loaded) at)
    (sound : start_of h.loaded < end_of h.loaded)
    (new : (k : ℕ) (d : NumberedModule) → k < length sorted
    → (get_or sorted k d).loaded.name ≢ h.loaded.name) where
  Place : ℕ → NumberedModule → Type 0
  Place j d = Old sorted (insert sorted at h) at j d
      ⊎ ((j ≡ at) × (get_or (insert sorted at h) j d ≡ h))

  apart : (i j : ℕ) (d : NumberedModule) → i < j → Place i d → Place j d
      → end_of (get_or (insert sorted at h) i d).loaded ≤ start_of
      (get_or (insert sorted at h) j d).loaded
  unfolding Place
  apart i j d lt (inl a) (inl b) =
      rw (a.same, b.same) (rising.apart a.place b.place d
      (rises sorted (insert sorted at h) at i j d a b lt) b.within)
  apart i j d lt (inl a) (inr b) =
      let w = a.within in
      let e = b.0 in
      rw (a.same, b.1) (clear.before a.place d
      (before-new sorted (insert sorted at h) at i d a (omega arith)) (inl w))
  apart i j d lt (inr a) (inl b) =
      let w = b.within in
      let e = a.0 in
      rw (a.1, b.same) (clear.after b.place d
      (after-new sorted (insert sorted at h) at j d b (omega arith)) w (inl w))
  apart i j d lt (inr a) (inr b) = let e = a.0 in let f = b.0 in absurd (omega arith)

  named : (i j : ℕ) (d : NumberedModule) → i < j → Place i d → Place j d
      → (get_or (insert sorted at h) i d).loaded.name ≢
      (get_or (insert sorted at h) j d).loaded.name
  unfolding Place
  named i j d lt (inl a) (inl b) =
      rw (a.same, b.same) (rising.names a.place b.place d
      (rises sorted (insert sorted at h) at i j d a b lt) b.within)
  named i j d lt (inl a) (inr b) = rw (a.same, b.1) (new a.place d a.within)
  named i j d lt (inr a) (inl b) = rw (a.1, b.same) (λ e. new b.place d b.within (sym e))
  named i j d lt (inr a) (inr b) = let e = a.0 in let f = b.0 in absurd (omega arith)

  sounds : (i : ℕ) (d : NumberedModule) → Place i d
      → start_of (get_or (insert sorted at h) i d).loaded < end_of
      (get_or (insert sorted at h) i d).loaded
  unfolding Place
  sounds i d (inl a) = rw a.same (rising.sound a.place d a.within)
  sounds i d (inr a) = rw a.1 sound

  place : (j : ℕ) (d : NumberedModule) → j < length (insert sorted at h) → Place j d
  unfolding Place
  place j d lt = spot sorted at h j d clear.within lt

  pub rising_insert : AreRising (insert sorted at h)
  rising_insert = record {
    apart = λ i j d lt in'. apart i j d lt (place i d (omega arith)) (place j d in');
    sound = λ i d in'. sounds i d (place i d in');
    names = λ i j d lt in'. named i j d lt (place i d (omega arith)) (place j d in');
  }
