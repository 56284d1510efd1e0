use Rattle.std.proofs.Common.{◌∙◌, sym, subst}
use Rattle.std.specs.Prelude.{Ok, Err}
use Rattle.module_map.specs.Private.Serials.{AreSound}
use Rattle.module_map.specs.Changes.{Unloads}
use Rattle.module_map.specs.declared.faults.MapFault.TheVariants.{NoModule}
use Rattle.module_map.proofs.Serials.{sound-remove}
use Rattle.module_map.proofs.Changing.{not_there, unloaded, world_of}
use Rattle.module_map.proofs.modules.Modules.unload.Goals as goal

pub invariant_of-self : goal.invariant_of-self
invariant_of-self c =
    subst (λ hs. AreSound hs c.self.inside.loads c.self.inside.cache.entries) (sym c.remove.ensures)
    (sound-remove _ _ _ c.in-Some.at c.self.invariant)

pub returns-in_default-clause-step : goal.returns-in_default-clause-step
returns-in_default-clause-step c =
    subst (λ m. Unloads m.world c.args.name.now (Err NoModule) m.world) c.self.view_is
    (not_there c.self.inside.sorted c.self.inside.loads c.args.name.now
    (sym c.position.ensures.place ∙ c.in_default.is))

pub returns-clause-step : goal.returns-clause-step
returns-clause-step c = let e = c.in-Some.ensures in
    subst (λ m. Unloads m.world c.args.name.now (Ok tt)
    (world_of c.remove.new.self c.self.inside.loads)) c.self.view_is
    (unloaded c.self.inside.sorted c.self.inside.loads c.args.name.now c.remove.new.self
    c.in-Some.at (sym e.place) e.only c.remove.ensures)
