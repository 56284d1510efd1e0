use Rattle.std.proofs.Common.{◌∙◌, sym, ap, subst, refl, []}
use Rattle.module_map.specs.Private.Serials.{NumberedModule}
use Rattle.module_map.specs.Answers.{asked}
use Rattle.module_map.specs.Counts.{TakesCompares}
use Rattle.module_map.proofs.Serials.{sound-unchanged}
use Rattle.module_map.proofs.Asking.{in-list, begins-by, asked-none, asked-some, takes-none}
use Rattle.module_map.proofs.Asking.{takes-some}
use Rattle.addr_table.proofs.Searching.StepLaws.{counted-decoded}
use Rattle.module_map.proofs.modules.Modules.ask.Goals as goal

-- a placeholder entry for a clause about an index past the end
any_module : NumberedModule
any_module = record { serial = 0; loaded = record { name = []; base = 0; bytes = [] } }

pub returns-in_default-clause-found : goal.returns-in_default-clause-found
returns-in_default-clause-found c = let n = c.in_default.ensures in
    asked-none c.self.inside.sorted c.self.inside.loads c.args.address (sym n.place)
    ∙ ap (λ v. asked v.world c.args.address) c.self.view_is

pub returns-in_default-clause-compares : goal.returns-in_default-clause-compares
returns-in_default-clause-compares c = let n = c.in_default.ensures in
    subst (λ v. TakesCompares v.world c.args.address c.locate.new.steps.compares) c.self.view_is
    (takes-none c.self.inside.sorted c.self.inside.loads c.args.address n.counted.0 _
    c.locate.new.steps (sym n.place) refl n.counted.3 n.counted.1)

pub returns-in_default-clause-decoded : goal.returns-in_default-clause-decoded
returns-in_default-clause-decoded c = let n = c.in_default.ensures in
    ap (λ s. s.decoded) n.counted.3 ∙ counted-decoded n.counted.0 _
    ∙ ap (λ v. v.decoded) c.self.view_is

pub look_up-place-requires-clause-starts : goal.look_up-place-requires-clause-starts
look_up-place-requires-clause-starts c = begins-by c.self.inside.sorted c.args.address c.in-Some.at
    (sym c.in-Some.ensures.place)

pub invariant_of-self-2 : goal.invariant_of-self-2
invariant_of-self-2 c = let p = c.in-Some.ensures in
    sound-unchanged c.self.inside.sorted c.self.inside.loads c.self.inside.cache.entries
    c.look_up-place.new.cache.entries c.in-Some.at any_module
    (in-list _ c.self.inside.sorted c.in-Some.at (sym p.place)) c.self.invariant
    (c.look_up-place.ensures.cached any_module)

pub returns-clause-found : goal.returns-clause-found
returns-clause-found c = let p = c.in-Some.ensures in
    asked-some c.self.inside.sorted c.self.inside.loads c.args.address c.in-Some.at any_module
    c.look_up-place.result (sym p.place) (c.look_up-place.ensures.place any_module)
    ∙ ap (λ v. asked v.world c.args.address) c.self.view_is

pub returns-clause-compares : goal.returns-clause-compares
returns-clause-compares c = let p = c.in-Some.ensures in let q = c.look_up-place.ensures.counted in
    subst (λ v. TakesCompares v.world c.args.address c.look_up-place.new.steps.compares)
    c.self.view_is
    (takes-some c.self.inside.sorted c.self.inside.loads c.args.address c.in-Some.at p.counted.0 q.0
    any_module _ c.locate.new.steps c.look_up-place.new.steps (sym p.place) refl p.counted.3 q.2
    p.counted.1 p.counted.2 (q.1 any_module))

pub returns-clause-decoded : goal.returns-clause-decoded
returns-clause-decoded c = let p = c.in-Some.ensures in let q = c.look_up-place.ensures.counted in
    ap (λ s. s.decoded) q.2 ∙ counted-decoded q.0 _ ∙ ap (λ s. s.decoded) p.counted.3
    ∙ counted-decoded p.counted.0 _
    ∙ ap (λ v. v.decoded) c.self.view_is
