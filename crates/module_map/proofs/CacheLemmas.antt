-- The number of cache entries after a lookup and after a put.
use Rattle.std.proofs.Common.{◌≡◌, ◌⊎◌, inl, inr, ℕ, suc, ◌+◌, ◌-◌, ◌<◌, ◌≤◌, Bool, true, false}
use Rattle.std.proofs.Common.{◌&&◌, eqb, List, [], ◌∷◌, length, take}
use Rattle.std.proofs.Common.{Option, Some, None, IfSome, Contains, refl, sym, ap, ap₂, subst}
use Rattle.std.proofs.Common.{arith}
use Rattle.std.proofs.lemmas.Bool.{eqb-true, false≢true}
use Rattle.std.proofs.lemmas.List.{length-take}
use Rattle.std.specs.Option.{option_map_or}
use Rattle.std.specs.Map.{lookup, lookup_entry, remove_entry}
use Rattle.lru.specs.LruCache.{LruCache, promoted, put_entries}
use Rattle.lru.proofs.CallerLemmas.{Contains-lookup, Contains-put_entries, IsPut}
use Rattle.module_map.specs.declared.cache.CacheKey.{CacheKey}
use Rattle.module_map.specs.Private.Cached.{is_key}

module _ {K V : Type 0} (test : K → Bool) where
  pub length-remove_entry : (es : List (K × V)) (e : K × V) → lookup_entry test es ≡ Some e
      → suc (length (remove_entry test es)) ≡ length es
  length-remove_entry [] e h = cc
  length-remove_entry (f ∷ es) e h =
      (elim (test f.0) as (λ y. test f.0 ≡ y → suc (length (remove_entry test (f ∷ es)))
      ≡ suc (length es)) [
        | true ↦ λ t. rw t refl
        | false ↦ λ t. rw t (ap suc (length-remove_entry es e (rw t at h)))
      ]) refl

  front : (es : List (K × V)) (o : Option (K × V)) → lookup_entry test es ≡ o
      → length (option_map_or (λ e. e ∷ remove_entry test es) o es) ≡ length es
  front es None h = refl
  front es (Some e) h = length-remove_entry es e h

  pub length-promoted : (es : List (K × V)) → length (promoted test es) ≡ length es
  length-promoted es = front es (lookup_entry test es) refl

module _ {K V : Type 0} (eq : K → K → Bool) (c : LruCache K V) (k : K) (v : V) where
  -- a put leaves the number of entries unchanged or adds one
  abbrev pub Grows : List (K × V) → Type 0
  Grows new = (length c.entries ≤ length new) × (length new ≤ length c.entries + 1)
      × (length new ≤ c.cap)

  abbrev after : Option (K × V) → List (K × V)
  after o = option_map_or (λ e. (e.0, v) ∷ remove_entry (eq k) c.entries) o
      ((k, v) ∷ take (c.cap - 1) c.entries)

  grown : (o : Option (K × V)) → lookup_entry (eq k) c.entries ≡ o → 0 < c.cap
      → length c.entries ≤ c.cap → Grows (after o)
  grown None h some within = let n = length-take (c.cap - 1) c.entries in
      (omega (arith, n), omega (arith, n), omega (arith, n))
  grown (Some e) h some within =
      let n = length-remove_entry (eq k) c.entries e h in
      (omega (arith, n), omega (arith, n), omega (arith, n))

  pub Grows-put_entries : 0 < c.cap → length c.entries ≤ c.cap → Grows (put_entries eq c k v)
  Grows-put_entries = grown (lookup_entry (eq k) c.entries) refl

both : (a b : Bool) → (a && b) ≡ true → (a ≡ true) × (b ≡ true)
both true b h = (refl, h)
both false b h = absurd (false≢true h)

same-key : (x y : CacheKey) → is_key x y ≡ true → y ≡ x
same-key x y h = let p = both (eqb x.serial y.serial) (eqb x.link y.link) h in
    let p0 : x.serial ≡ y.serial = eqb-true x.serial y.serial p.0 in
    let p1 : x.link ≡ y.link = eqb-true x.link y.link p.1 in
    sym (ap₂ (λ (a b : ℕ). record { serial = a; link = b }) p0 p1)

module _ {V : Type 0} (key : CacheKey) where
  -- the entry that a lookup finds is cached under exactly this key
  pub found_key : (es : List (CacheKey × V)) (o : Option V) → o ≡ lookup (is_key key) es
      → IfSome o (λ v. Contains es (key, v))
  found_key es None h = tt
  found_key es (Some v) h =
      let it = Contains-lookup (is_key key) es v (sym h) in
      subst (λ k. Contains es (k, v)) (same-key key it.0 it.2) it.1

  put_key : (c : LruCache CacheKey V) (v : V) (e : CacheKey × V) → IsPut is_key c key v e
      → e ≡ (key, v)
  put_key c v e h = elim h.1 [
    | inl same ↦ ap₂ (λ (k : CacheKey) (w : V). (k, w)) same h.0
    | inr was ↦ ap₂ (λ (k : CacheKey) (w : V). (k, w)) (same-key key e.0 was.2) h.0
  ]

  -- each entry after a put was there before, or is the new one
  pub put_or_was : (c : LruCache CacheKey V) (v : V) (e : CacheKey × V)
      → Contains (put_entries is_key c key v) e
      → Contains c.entries e ⊎ (e ≡ (key, v))
  put_or_was c v e h = elim (Contains-put_entries is_key c key v e h) [
    | inl was ↦ inl was
    | inr is ↦ inr (put_key c v e is)
  ]
