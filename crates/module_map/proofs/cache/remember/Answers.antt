use Rattle.std.proofs.Common.{◌≡◌, ◌⊎◌, inl, inr, ◌≤◌, ◌<◌, ap, subst, ℕ, length, Contains, Result}
use Rattle.std.proofs.Common.{Ok, Err, arith, sym}
use Rattle.std.specs.Result.{OnOk, OnErr}
use Rattle.lru.specs.LruCache.{LruCache, put_entries, lru_cache}
use Rattle.module_map.specs.declared.cache.CacheKey.{CacheKey}
use Rattle.module_map.specs.Private.Cached.{is_key}
use Rattle.module_map.proofs.CacheLemmas.{put_or_was, Grows, Grows-put_entries}
use Rattle.module_map.proofs.cache.remember.Goals as goal

-- after a put that succeeded, or that ran out of memory
module _ {V T E : Type 0} (c : LruCache CacheKey V) (key : CacheKey) (v : V)
    (new : LruCache CacheKey V)
  where
    changed : (r : Result T E) → OnOk r (new ≡ lru_cache (put_entries is_key c key v) c.cap)
        → OnErr r (new ≡ c)
        → (new.entries ≡ c.entries) ⊎ (new.entries ≡ put_entries is_key c key v)
    changed (Ok x) ok err = inr (ap (λ l. l.entries) ok)
    changed (Err x) ok err = inl (ap (λ l. l.entries) err)

    cached : (r : Result T E) → OnOk r (new ≡ lru_cache (put_entries is_key c key v) c.cap)
        → OnErr r (new ≡ c)
        → (e : CacheKey × V) → Contains new.entries e → Contains c.entries e ⊎ (e ≡ (key, v))
    cached (Ok x) ok err e h = put_or_was key c v e (subst (λ l. Contains l.entries e) ok h)
    cached (Err x) ok err e h = inl (subst (λ l. Contains l.entries e) err h)

    grown : (r : Result T E) → OnOk r (new ≡ lru_cache (put_entries is_key c key v) c.cap)
        → OnErr r (new ≡ c)
        → 0 < c.cap → length c.entries ≤ c.cap → Grows is_key c key v new.entries
    grown (Ok x) ok err some within = subst (λ l. Grows is_key c key v l.entries) (sym ok)
        (Grows-put_entries is_key c key v some within)
    grown (Err x) ok err some within =
        let same : length new.entries ≡ length c.entries = ap (λ l. length l.entries) err in
        (omega arith, omega arith, omega arith)

    same_cap : (r : Result T E) → OnOk r (new ≡ lru_cache (put_entries is_key c key v) c.cap)
        → OnErr r (new ≡ c) → new.cap ≡ c.cap
    same_cap (Ok x) ok err = ap (λ l. l.cap) ok
    same_cap (Err x) ok err = ap (λ l. l.cap) err

pub returns-clause-change : goal.returns-clause-change
returns-clause-change c =
    changed c.args.answers.now c.args.key c.args.place c.put.new.self c.put.result
    c.put.ensures.entries c.put.ensures.err

pub returns-clause-cached : goal.returns-clause-cached
returns-clause-cached c =
    cached c.args.answers.now c.args.key c.args.place c.put.new.self c.put.result
    c.put.ensures.entries c.put.ensures.err

pub returns-clause-grows : goal.returns-clause-grows
returns-clause-grows c =
    let g = grown c.args.answers.now c.args.key c.args.place c.put.new.self c.put.result
    c.put.ensures.entries c.put.ensures.err
    c.len-count.ensures.valid.2 c.len-count.ensures.valid.1 in (g.0, g.1)

pub returns-clause-within : goal.returns-clause-within
returns-clause-within c =
    let g = grown c.args.answers.now c.args.key c.args.place c.put.new.self c.put.result
    c.put.ensures.entries c.put.ensures.err
    c.len-count.ensures.valid.2 c.len-count.ensures.valid.1 in
    let same = same_cap c.args.answers.now c.args.key c.args.place c.put.new.self c.put.result
    c.put.ensures.entries c.put.ensures.err in
    omega arith
