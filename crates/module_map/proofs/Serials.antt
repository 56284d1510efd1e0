-- Serial numbers identify the bytes of loads permanently.
use Rattle.std.proofs.Common.{◌≡◌, ◌⊎◌, inl, inr, ℕ, zero, suc, ◌+◌, ◌-◌, ◌<◌, ◌≤◌, List, [], ◌∷◌}
use Rattle.std.proofs.Common.{length, take, drop, get_or, Contains}
use Rattle.std.proofs.Common.{refl, sym, ap, ◌∙◌, subst, arith}
use Rattle.std.specs.Prelude.{Option, insert, remove, nat_le, if◌then◌else◌}
use Rattle.std.proofs.lemmas.List.{length-append, length-take, length-drop}
use Rattle.std.proofs.lemmas.List.Edits.{length-remove}
use Rattle.module_map.specs.declared.cache.CacheKey.{CacheKey}
use Rattle.module_map.specs.World.{most_modules}
use Rattle.std.proofs.lemmas.List.Elements.{Contains-append_cases, Contains-get_or}
use Rattle.lru.proofs.CallerLemmas.{Contains-take}
use Rattle.lru.proofs.Splits.{Contains-cons, Contains-tail}
use Rattle.addr_table.specs.Module.{place_in}
use Rattle.addr_table.specs.declared.place.Place.{Place}
use Rattle.module_map.specs.Private.Serials.{NumberedModule, AreSound, IsAnswerOf}
use Rattle.module_map.specs.Private.Rising.{relocated, rebased}

module _ {X : Type 0} where
  contains_drop : (n : ℕ) (xs : List X) (x : X) → Contains (drop n xs) x → Contains xs x
  contains_drop zero xs x c = c
  contains_drop (suc n) [] x c = c
  contains_drop (suc n) (y ∷ xs) x c = Contains-tail y xs x (contains_drop n xs x c)

  contains_insert : (xs : List X) (at : ℕ) (y x : X) → Contains (insert xs at y) x
      → Contains xs x ⊎ (x ≡ y)
  contains_insert xs at y x c = elim (Contains-append_cases (take at xs) (y ∷ drop at xs) x c) [
    | inl front ↦ inl (Contains-take at xs x front)
    | inr back ↦ elim (Contains-cons y (drop at xs) x back) [
      | inl same ↦ inr (sym same)
      | inr rest ↦ inl (contains_drop at xs x rest)
    ]
  ]

  contains_remove : (xs : List X) (at : ℕ) (x : X) → Contains (remove xs at) x → Contains xs x
  contains_remove xs at x c = elim (Contains-append_cases (take at xs) (drop (suc at) xs) x c) [
    | inl front ↦ Contains-take at xs x front
    | inr back ↦ contains_drop (suc at) xs x back
  ]

module _ {X : Type 0} where
  length-remove_any : (xs : List X) (at : ℕ) → length (remove xs at) ≤ length xs
  length-remove_any xs at = simp (length-append, length-take, length-drop) (omega arith)

  length-insert_any : (xs : List X) (at : ℕ) (y : X) → length (insert xs at y) ≡ length xs + 1
  length-insert_any xs at y = simp (length-append, length-take, length-drop) (omega arith)

  fewer : (xs : List X) (own at : ℕ) (y : X) → own < length xs
      → length (insert (remove xs own) at y) ≤ length xs
  fewer xs own at y lt = let n = length-insert_any (remove xs own) at y in let m =
      length-remove xs own lt in omega (arith, n, m)

-- a module that was there before, with the same serial number and the same bytes
pub record WasThere (hs : List NumberedModule) (h : NumberedModule) : Type 0 where
  pub was : NumberedModule
  pub there : Contains hs was
  pub serial : was.serial ≡ h.serial
  pub bytes : was.loaded.bytes ≡ h.loaded.bytes

pub sound-alike : (hs hs' : List NumberedModule) (loads : ℕ) (es : List (CacheKey × Option Place))
    → AreSound hs loads es
    → ((h : NumberedModule) → Contains hs' h → WasThere hs h) → length hs' ≤ length hs
    → AreSound hs' loads es
sound-alike hs hs' loads es sound known fewer = record {
  few = let f = sound.few in omega arith;
  below = λ h c. let k = known h c in subst (λ n. n < loads) k.serial (sound.below k.was k.there);
  one =
      λ h g c d e. let k = known h c in
      let l = known g d in
      sym k.bytes ∙ sound.one k.was l.was k.there l.there (k.serial ∙ e ∙ sym l.serial) ∙ l.bytes;
  past = sound.past;
  right = λ e h c d s. let k = known h d in sound.right e k.was c k.there (k.serial ∙ s)
      ∙ ap (λ (b : List ℕ). place_in b e.0.link) k.bytes;
}

pub sound-remove : (hs : List NumberedModule) (loads : ℕ) (es : List (CacheKey × Option Place))
    (at : ℕ) → AreSound hs loads es
    → AreSound (remove hs at) loads es
sound-remove hs loads es at sound =
    sound-alike hs (remove hs at) loads es sound
    (λ h c. record { was = h; there = contains_remove hs at h c; serial = refl; bytes = refl })
    (length-remove_any hs at)

pub sound-turned : (hs : List NumberedModule) (loads : ℕ) (es : List (CacheKey × Option Place))
    (own at base : ℕ) (d : NumberedModule)
    → own < length hs → AreSound hs loads es
    → AreSound (relocated hs own at (rebased base (get_or hs own d))) loads es
sound-turned hs loads es own at base d lt sound =
    sound-alike hs (relocated hs own at (rebased base (get_or hs own d))) loads es sound
    (λ h c. by h (contains_insert (remove hs own) (if nat_le at own then at else at - 1)
    (rebased base (get_or hs own d)) h c))
    (fewer hs own (if nat_le at own then at else at - 1) (rebased base (get_or hs own d)) lt)
  where
    by : (h : NumberedModule) → Contains (remove hs own) h ⊎ (h ≡ rebased base (get_or hs own d))
        → WasThere hs h
    by h (inl old) = record {
      was = h;
      there = contains_remove hs own h old;
      serial = refl;
      bytes =
          refl;
    }
    by h (inr new) = record {
      was = get_or hs own d;
      there = Contains-get_or hs own d lt;
      serial =
          sym (ap (λ (g : NumberedModule). g.serial) new);
      bytes =
          sym (ap (λ (g : NumberedModule). g.loaded.bytes) new);
    }

-- a loaded module takes the next serial number, under which nothing is cached
pub sound-insert : (hs : List NumberedModule) (loads : ℕ) (es : List (CacheKey × Option Place))
    (at : ℕ) (h : NumberedModule)
    → h.serial ≡ loads → length hs < most_modules → AreSound hs loads es
    → AreSound (insert hs at h) (loads + 1) es
sound-insert hs loads es at h new capacity sound = record {
  few = let n = length-insert_any hs at h in omega (arith, n);
  below = λ g c. below g (contains_insert hs at h g c);
  one = λ g f c d e. one g f (contains_insert hs at h g c) (contains_insert hs at h f d) e;
  past = λ e c. let p = sound.past e c in omega arith;
  right = λ e g c d s. right e g c (contains_insert hs at h g d) s;
}
  where
    serial_of : (g : NumberedModule) → g ≡ h → g.serial ≡ loads
    serial_of g e = ap (λ (f : NumberedModule). f.serial) e ∙ new

    below : (g : NumberedModule) → Contains hs g ⊎ (g ≡ h) → g.serial < loads + 1
    below g (inl old) = let b = sound.below g old in omega arith
    below g (inr e) = let s = serial_of g e in omega arith

    one : (g f : NumberedModule) → Contains hs g ⊎ (g ≡ h) → Contains hs f ⊎ (f ≡ h)
        → g.serial ≡ f.serial
        → g.loaded.bytes ≡ f.loaded.bytes
    one g f (inl c) (inl d) e = sound.one g f c d e
    one g f (inl c) (inr d) e = let b = sound.below g c in let s = serial_of f d in
        absurd (omega arith)
    one g f (inr c) (inl d) e = let b = sound.below f d in let s = serial_of g c in
        absurd (omega arith)
    one g f (inr c) (inr d) e = ap (λ (x : NumberedModule). x.loaded.bytes) (c ∙ sym d)

    right : (e : CacheKey × Option Place) (g : NumberedModule) → Contains es e
        → Contains hs g ⊎ (g ≡ h) → g.serial ≡ e.0.serial
        → e.1 ≡ place_in g.loaded.bytes e.0.link
    right e g c (inl old) s = sound.right e g c old s
    right e g c (inr same) s = let p = sound.past e c in let q = serial_of g same in
        absurd (omega arith)

-- an answer of a loaded module is cached
pub sound-unchanged : (hs : List NumberedModule) (loads : ℕ)
    (es es' : List (CacheKey × Option Place))
    (at : ℕ) (d : NumberedModule)
    → at < length hs → AreSound hs loads es
    → ((e : CacheKey × Option Place) → Contains es' e
    → Contains es e ⊎ IsAnswerOf (get_or hs at d) e) → AreSound hs loads es'
sound-unchanged hs loads es es' at d lt sound cached = record {
  few = sound.few;
  below = sound.below;
  one = sound.one;
  past = λ e c. past e (cached e c);
  right = λ e h c k s. right e h k s (cached e c);
}
  where
    there : Contains hs (get_or hs at d)
    there = Contains-get_or hs at d lt

    past : (e : CacheKey × Option Place) → Contains es e ⊎ IsAnswerOf (get_or hs at d) e
        → e.0.serial < loads
    past e (inl old) = sound.past e old
    past e (inr new) = subst (λ n. n < loads) new.0 (sound.below (get_or hs at d) there)

    right : (e : CacheKey × Option Place) (h : NumberedModule) → Contains hs h
        → h.serial ≡ e.0.serial
        → Contains es e ⊎ IsAnswerOf (get_or hs at d) e → e.1 ≡ place_in h.loaded.bytes e.0.link
    right e h k s (inl old) = sound.right e h old k s
    right e h k s (inr new) = new.1 ∙ ap (λ (b : List ℕ). place_in b e.0.link)
        (sound.one (get_or hs at d) h there k (new.0 ∙ sym s))
