use Rattle.std.proofs.Common.{◌≡◌, ◌∙◌, ◌⊎◌, ℕ, List, refl, subst, Contains}
use Rattle.module_map.specs.Private.Cached.{with_answer}
use Rattle.module_map.specs.Private.Serials.{CacheEntry}
use Rattle.module_map.proofs.cache.Cache.put.Goals as goal

pub invariant_of-self-2 : goal.invariant_of-self-2
invariant_of-self-2 c = λ x e. let fits = c.self.invariant c.in-Some.answers c.in-Some.is in
    let same : c.remember.new.answers ≡ x = cc in
    rw (← same) (c.remember.ensures.capacity ∙ fits.0, c.remember.ensures.within)

pub returns-clause-cached : goal.returns-clause-cached
returns-clause-cached c = let was : c.in-Some.answers.entries ≡ c.args.self.now.entries =
    rw (← c.self.view_is, c.in-Some.is) refl in
    λ e h. subst (λ l. Contains l e ⊎ (e ≡ (c.args.key, c.args.place))) was
    (c.remember.ensures.cached e h)

pub returns-clause-change : goal.returns-clause-change
returns-clause-change c = let was : c.in-Some.answers.entries ≡ c.args.self.now.entries =
    rw (← c.self.view_is, c.in-Some.is) refl in
    let is_cap : c.in-Some.answers.cap ≡ c.args.self.now.capacity =
    rw (← c.self.view_is) (c.self.invariant c.in-Some.answers c.in-Some.is).0 in
    let new : List CacheEntry = c.remember.new.answers.entries in
    let Changed : List CacheEntry → ℕ → Type 0 =
    λ es cap. (new ≡ es) ⊎ (new ≡ with_answer c.args.key c.args.place
    (record { entries = es; capacity = cap })) in
    subst (λ es. Changed es c.args.self.now.capacity) was
    (subst (λ cap. Changed c.in-Some.answers.entries cap) is_cap c.remember.ensures.change)
