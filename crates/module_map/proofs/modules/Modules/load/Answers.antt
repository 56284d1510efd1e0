use Rattle.std.proofs.Common.{◌≡◌, sym, ap, subst, false}
use Rattle.module_map.specs.Changes.{is_taken, is_full}
use Rattle.module_map.proofs.Loading.{SomeLoad, name_taken, full, not_decoded, added-bytes}
use Rattle.addr_table.proofs.Decoding.FaultLaws.{well-formed-faultless}
use Rattle.module_map.proofs.modules.Modules.load.Goals as goal

pub returns-then-is_taken-clause-step : goal.returns-then-is_taken-clause-step
returns-then-is_taken-clause-step c = name_taken _ _ (sym c.if-is_taken.ensures)

pub returns-then-is_full-clause-step : goal.returns-then-is_full-clause-step
returns-then-is_full-clause-step c = full _ _ (sym c.if-is_taken.ensures) (sym c.if-is_full.ensures)

pub returns-in-Ok-clause-step : goal.returns-in-Ok-clause-step
returns-in-Ok-clause-step c =
    let free = subst (λ v. is_taken c.args.name.now v.world ≡ false) (sym c.self.view_is)
    (sym c.if-is_taken.ensures) in
    let capacity = subst (λ v. is_full v.world ≡ false) (sym c.self.view_is)
    (sym c.if-is_full.ensures) in
    subst (λ v. SomeLoad v.world (record
    { name = c.args.name.now; base = c.args.base; bytes = c.args.bytes.items }) c.add.result
    c.add.new.self.world) c.self.view_is
    (added-bytes _ c.add.new.self c.args.name.now c.args.base c.in-Ok.object c.args.bytes.items
    c.add.result free capacity c.in-Ok.ensures.ok.0
    (well-formed-faultless c.args.bytes.items c.in-Ok.ensures.ok.1) c.add.ensures)

pub returns-clause-step : goal.returns-clause-step
returns-clause-step c =
    let s = not_decoded c.args.self.now.world
    (record { name = c.args.name.now; base = c.args.base; bytes = c.args.bytes.items })
    (sym c.if-is_taken.ensures) (sym c.if-is_full.ensures) c.in-Err.fault c.refusal.result
    c.in-Err.ensures.fault c.refusal.ensures in
    (s.0, (s.1.0, ap (λ v. v.world) c.self.view_is))
