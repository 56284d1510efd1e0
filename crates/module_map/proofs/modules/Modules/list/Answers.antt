use Rattle.std.proofs.Common.{◌≡◌, ◌∙◌, List, [], ◌∷◌, map, refl, ap, suc, length, arith, subst}
use Rattle.module_map.specs.World.{AreRising}
use Rattle.module_map.proofs.RisingModules.{hold-once}
use Rattle.module_map.specs.Private.Serials.{NumberedModule, loaded_of}
use Rattle.module_map.specs.Listing.{Listed, list_item}
use Rattle.module_map.proofs.modules.Modules.list.Goals as goal

through : (hs : List NumberedModule) → map (λ (h : NumberedModule). list_item h.loaded) hs
    ≡ map list_item (map loaded_of hs)
through [] = refl
through (h ∷ hs) = ap (λ (l : List Listed). list_item h.loaded ∷ l) (through hs)

pub returns-clause-modules : goal.returns-clause-modules
returns-clause-modules c = c.list.ensures.modules ∙ through c.self.inside.sorted
    ∙ ap (λ v. map list_item v.world.modules) c.self.view_is

long : (hs : List NumberedModule) → length (map loaded_of hs) ≡ length hs
long [] = refl
long (h ∷ hs) = ap suc (long hs)

pub returns-clause-few : goal.returns-clause-few
returns-clause-few c =
    let few = c.self.invariant.few in
    let count = long c.self.inside.sorted in
    let seen = ap (λ v. length v.world.modules) c.self.view_is in
    omega arith

pub returns-clause-rising : goal.returns-clause-rising
returns-clause-rising c =
    subst (λ v. AreRising v.world.modules) c.self.view_is c.list.ensures.rising

pub returns-clause-one : goal.returns-clause-one
returns-clause-one c = hold-once _
    (subst (λ v. AreRising v.world.modules) c.self.view_is c.list.ensures.rising)
