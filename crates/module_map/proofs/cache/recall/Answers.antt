use Rattle.std.proofs.Common.{◌∙◌, ap, subst, length, Contains}
use Rattle.lru.proofs.CallerLemmas.{Contains-promoted}
use Rattle.module_map.proofs.CacheLemmas.{found_key, length-promoted}
use Rattle.module_map.specs.Private.Cached.{is_key}
use Rattle.module_map.proofs.cache.recall.Goals as goal

pub returns-clause-value : goal.returns-clause-value
returns-clause-value c = c.copied.ensures ∙ c.get.ensures.value

pub returns-clause-order : goal.returns-clause-order
returns-clause-order c = ap (λ s. s.entries) c.get.follows.holds-at-none

pub returns-clause-found : goal.returns-clause-found
returns-clause-found c = found_key c.args.key c.args.answers.now.entries c.copied.result
    (c.copied.ensures ∙ c.get.ensures.value)

pub returns-clause-cached : goal.returns-clause-cached
returns-clause-cached c = λ e h. Contains-promoted (is_key c.args.key) c.args.answers.now.entries e
    (subst (λ l. Contains l e) (ap (λ s. s.entries) c.get.follows.holds-at-none) h)

pub returns-clause-count : goal.returns-clause-count
returns-clause-count c =
    ap (λ s. length s.entries) c.get.follows.holds-at-none ∙ length-promoted (is_key c.args.key)
    c.args.answers.now.entries
