use Rattle.std.proofs.Common.{◌≡◌, ◌∙◌, refl, subst, arith, Contains}
use Rattle.module_map.specs.Private.Cached.{cached_under, after_lookup}
use Rattle.module_map.proofs.cache.Cache.get.Goals as goal

pub invariant_of-self-2 : goal.invariant_of-self-2
invariant_of-self-2 c = λ x e. let fits = c.self.invariant c.in-Some.answers c.in-Some.is in
    let same : c.recall.new.answers ≡ x = cc in
    rw (← same) (c.recall.ensures.capacity ∙ fits.0, omega arith)

pub returns-clause-cached : goal.returns-clause-cached
returns-clause-cached c = let was : c.in-Some.answers.entries ≡ c.args.self.now.entries =
    rw (← c.self.view_is, c.in-Some.is) refl in
    λ e h. subst (λ l. Contains l e) was (c.recall.ensures.cached e h)

pub returns-clause-value : goal.returns-clause-value
returns-clause-value c = let was : c.in-Some.answers.entries ≡ c.args.self.now.entries =
    rw (← c.self.view_is, c.in-Some.is) refl in
    subst (λ l. c.recall.result ≡ cached_under c.args.key l) was c.recall.ensures.value

pub returns-clause-order : goal.returns-clause-order
returns-clause-order c = let was : c.in-Some.answers.entries ≡ c.args.self.now.entries =
    rw (← c.self.view_is, c.in-Some.is) refl in
    subst (λ l. c.recall.new.answers.entries ≡ after_lookup c.args.key l) was c.recall.ensures.order
