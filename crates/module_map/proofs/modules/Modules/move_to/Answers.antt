use Rattle.std.proofs.Common.{◌∙◌, sym, subst}
use Rattle.std.specs.Prelude.{Ok, Err}
use Rattle.module_map.specs.Private.Serials.{AreSound}
use Rattle.module_map.specs.Changes.{Moves}
use Rattle.module_map.specs.declared.faults.MapFault.TheVariants.{NoModule, Range, Overlap}
use Rattle.module_map.proofs.Serials.{sound-turned}
use Rattle.module_map.proofs.Changing.{not_moved, world_of}
use Rattle.module_map.proofs.CachedModules.{past_by, over_by, into_by, gap_by, fits_by}
use Rattle.module_map.proofs.modules.Modules.move_to.Goals as goal

pub returns-in_default-clause-step : goal.returns-in_default-clause-step
returns-in_default-clause-step c =
    subst (λ m. Moves m.world c.args.name.now c.args.base (Err NoModule) m.world) c.self.view_is
    (not_moved c.self.inside.sorted c.self.inside.loads c.args.name.now c.args.base
    (sym c.position.ensures.place ∙ c.in_default.is))

pub returns-in_default-extent_at-clause-step : goal.returns-in_default-extent_at-clause-step
returns-in_default-extent_at-clause-step c = let e = c.in-Some.ensures in
    subst (λ m. Moves m.world c.args.name.now c.args.base (Err Range) m.world) c.self.view_is
    (past_by c.self.inside.sorted c.self.inside.loads c.args.name.now c.args.base c.in-Some.own
    c.loaded_at.result.now (sym e.place) e.only c.loaded_at.ensures
    c.in_default-extent_at.ensures)

pub returns-in-Err-clause-step : goal.returns-in-Err-clause-step
returns-in-Err-clause-step c = let e = c.in-Some.ensures in
    subst (λ m. Moves m.world c.args.name.now c.args.base (Err (Overlap c.in-Err.other)) m.world)
    c.self.view_is
    (over_by c.self.inside.sorted c.self.inside.loads c.args.name.now c.args.base c.in-Some.own
    c.loaded_at.result.now (sym e.place) e.only c.loaded_at.ensures c.in-Some-extent_at.extent
    c.in-Err.other c.in-Some-extent_at.ensures c.in-Err.ensures)

pub relocate-requires-clause-clear : goal.relocate-requires-clause-clear
relocate-requires-clause-clear c = let e = c.in-Some.ensures in
    gap_by c.self.inside.sorted c.self.inside.loads c.args.name.now c.args.base c.in-Some.own
    c.loaded_at.result.now (sym e.place) e.only c.loaded_at.ensures c.in-Some-extent_at.extent
    c.in-Ok.at c.in-Some-extent_at.ensures c.in-Ok.ensures

pub relocate-requires-clause-fits : goal.relocate-requires-clause-fits
relocate-requires-clause-fits c = let e = c.in-Some.ensures in
    fits_by c.self.inside.sorted c.self.inside.loads c.args.name.now c.args.base c.in-Some.own
    c.loaded_at.result.now (sym e.place) e.only c.loaded_at.ensures c.in-Some-extent_at.extent
    c.in-Some-extent_at.ensures

pub invariant_of-self : goal.invariant_of-self
invariant_of-self c = let e = c.in-Some.ensures in
    subst (λ hs. AreSound hs c.self.inside.loads c.self.inside.cache.entries)
    (sym (c.relocate.ensures c.loaded_at.result.now))
    (sound-turned c.self.inside.sorted c.self.inside.loads _ c.in-Some.own c.in-Ok.at c.args.base
    c.loaded_at.result.now e.only.within c.self.invariant)

pub returns-in-Ok-clause-step : goal.returns-in-Ok-clause-step
returns-in-Ok-clause-step c = let e = c.in-Some.ensures in
    subst (λ m. Moves m.world c.args.name.now c.args.base (Ok c.in-Some-extent_at.extent)
    (world_of c.relocate.new.self c.self.inside.loads)) c.self.view_is
    (into_by c.self.inside.sorted c.self.inside.loads c.args.name.now c.args.base c.in-Some.own
    c.loaded_at.result.now (sym e.place) e.only c.loaded_at.ensures c.relocate.new.self
    c.in-Some-extent_at.extent c.in-Ok.at
    c.in-Some-extent_at.ensures c.in-Ok.ensures (c.relocate.ensures c.loaded_at.result.now))
