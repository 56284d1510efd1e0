use Rattle.std.proofs.Common.{◌≡◌, ◌∙◌, inl, inr, sym, ap, subst, ℕ, Option}
use Rattle.std.proofs.lemmas.List.{get_or_default}
use Rattle.addr_table.specs.Module.{place_in}
use Rattle.addr_table.specs.declared.place.Place.{Place}
use Rattle.module_map.specs.declared.cache.CacheKey.{CacheKey}
use Rattle.module_map.specs.Private.Serials.{NumberedModule, IsAnswerOf}
use Rattle.module_map.proofs.cached_lookup.look_up.Goals as goal

answer_of : (h x : NumberedModule) (key : CacheKey) (place : Option Place)
    (e : CacheKey × Option Place)
    → x ≡ h → key.serial ≡ x.serial
    → place ≡ place_in x.loaded.bytes key.link → e ≡ (key, place) → IsAnswerOf h e
answer_of h x key place e same s p is =
    subst (IsAnswerOf h) (sym is) (
      sym (ap (λ (y : NumberedModule). y.serial) same) ∙ sym s,
      p
          ∙ ap (λ (y : NumberedModule). place_in y.loaded.bytes key.link) same,
    )

pub returns-clause-cached : goal.returns-clause-cached
returns-clause-cached c = λ d e h. elim (c.put.ensures.cached e h) [
  | inl was ↦ inl (c.get.ensures.cached e was)
  | inr is ↦ inr (answer_of _ c.loaded_at-loaded.result.now _ _ e
      (c.loaded_at-loaded.ensures ∙ get_or_default _ _ _ d c.requires.within)
      c.key-key.ensures.serial c.find-place.ensures.place is)
]
