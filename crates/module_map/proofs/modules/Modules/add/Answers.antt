use Rattle.std.proofs.Common.{◌≡◌, inr, sym, ap, subst, refl, ◌+◌, ◌<◌, ◌^◌, arith, false, List, ℕ}
use Rattle.std.proofs.Common.{length, Option}
use Rattle.std.specs.Prelude.{Some, None, position}
use Rattle.addr_table.specs.Module.{low_of, high_of}
use Rattle.module_map.specs.declared.cache.CacheKey.{CacheKey}
use Rattle.module_map.specs.World.{is_named}
use Rattle.module_map.specs.Changes.{is_taken, is_full, place_fault, with_module}
use Rattle.module_map.specs.declared.faults.MapFault.TheVariants.{Overlap}
use Rattle.addr_table.specs.declared.place.Place.{Place}
use Rattle.addr_table.specs.declared.steps.Steps.{Steps}
use Rattle.module_map.specs.Counts.{ModuleMap}
use Rattle.module_map.specs.Private.Serials.{AreSound, NumberedModule}
use Rattle.module_map.proofs.Serials.{sound-insert}
use Rattle.module_map.proofs.CachedModules.{same-but-modules, limit-left, free-name, over_any}
use Rattle.module_map.proofs.CachedModules.{free_all, stored-there}
use Rattle.module_map.proofs.Changing.{world_of}
use Rattle.module_map.proofs.modules.Modules.add.Goals as goal

-- the state after an insertion, as contracts see it
abbrev map_with : List NumberedModule → ℕ → List (CacheKey × Option Place) → ℕ → Steps → ModuleMap
map_with hs loads entries capacity steps =
    record {
      world = world_of hs (loads + 1);
      cached = length entries;
      capacity = capacity;
      compares = steps.compares;
      decoded = steps.decoded;
    }

pub returns-in-Err : goal.returns-in-Err
returns-in-Err c =
    let free = subst (λ v. is_taken c.args.name.now v.world ≡ false) (sym c.self.view_is)
    c.requires.new in
    let fits : c.args.base + high_of c.args.object < 2 ^ 64 = let h = c.high.ensures in
    let b = c.if-base-high.false in
    let t = c.high.type_inv in
    omega arith in (
      inr (subst (λ v. place_fault (record
          { name = c.args.name.now; base = c.args.base; bytes = c.args.object }) v.world.modules
          ≡ Some (Overlap c.in-Err.other)) c.self.view_is
          (over_any c.self.inside.sorted c.self.inside.loads
          (record { name = c.args.name.now; base = c.args.base; bytes = c.args.object }) _ _ _
          free c.len.ensures
          c.extent_of-extent.ensures.low c.extent_of-extent.ensures.high _ fits c.in-Err.ensures)),
      refl,
    )

pub insert-requires-clause-new : goal.insert-requires-clause-new
insert-requires-clause-new c =
    let free = subst (λ v. is_taken c.args.name.now v.world ≡ false) (sym c.self.view_is)
    c.requires.new in
    subst (λ (x : NumberedModule). position (λ h. is_named x.loaded.name h.loaded)
    c.self.inside.sorted ≡ None) (sym c.in-Ok-new.ensures)
    (free-name c.args.name.now c.self.inside.sorted c.self.inside.loads free)

pub invariant_of-self-2 : goal.invariant_of-self-2
invariant_of-self-2 c = let e = c.in-Ok-insert.ensures in
    subst (λ hs. AreSound hs (c.self.inside.loads + 1) c.self.inside.cache.entries) (sym e)
    (sound-insert c.self.inside.sorted c.self.inside.loads _ c.in-Ok.at c.in-Ok-new.loaded
    (ap (λ h. h.serial) c.in-Ok-new.ensures)
    (limit-left c.self.inside.sorted c.self.inside.loads
    (subst (λ v. is_full v.world ≡ false) (sym c.self.view_is) c.requires.loads))
    c.self.invariant)

pub returns : goal.returns
returns c =
    let free = subst (λ v. is_taken c.args.name.now v.world ≡ false) (sym c.self.view_is)
    c.requires.new in
    let fits : c.args.base + high_of c.args.object < 2 ^ 64 = let h = c.high.ensures in
    let b = c.if-base-high.false in
    let t = c.high.type_inv in
    omega arith in
    let low = c.extent_of-extent.ensures.low in
    let high = c.extent_of-extent.ensures.high in
    let order : c.args.base + low_of c.args.object < c.args.base + high_of c.args.object = let o =
    c.extent_of-extent.ensures.order in omega arith in (
      subst (λ v. place_fault (record {
        name = c.args.name.now;
        base = c.args.base;
        bytes =
            c.args.object;
      }) v.world.modules ≡ None) c.self.view_is
          (free_all c.self.inside.sorted c.self.inside.loads
          (record { name = c.args.name.now; base = c.args.base; bytes = c.args.object }) _ _ _
          free c.len.ensures low high c.in-Ok.at fits c.in-Ok.ensures),
      (low, high),
      subst (λ v. map_with c.insert.new.self c.self.inside.loads c.self.inside.cache.entries
          c.self.inside.cache.capacity c.self.inside.steps ≡
          record v {
            world = with_module v.world
                (record { name = c.args.name.now; base = c.args.base; bytes = c.args.object });
          })
          c.self.view_is
          (same-but-modules _ _ (c.self.inside.loads + 1) _ _ _ _
          (stored-there c.self.inside.sorted c.self.inside.loads
          (record { name = c.args.name.now; base = c.args.base; bytes = c.args.object }) _ _ _
          free c.len.ensures low high
          c.insert.new.self c.in-Ok.at c.self.inside.loads c.in-Ok-new.loaded c.in-Ok-new.ensures
          order c.in-Ok.ensures c.in-Ok-insert.ensures)),
    )
