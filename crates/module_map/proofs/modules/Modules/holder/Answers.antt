use Rattle.std.proofs.Common.{◌≤◌, ◌∙◌, sym, subst}
use Rattle.module_map.specs.World.{start_of}
use Rattle.module_map.proofs.Asking.{begins-by}
use Rattle.module_map.proofs.modules.Modules.holder.Goals as goal

pub returns : goal.returns
returns c = subst (λ m. start_of m.loaded ≤ c.args.address) (sym c.loaded_at.ensures)
    (begins-by c.self.inside.sorted c.args.address c.in_ok-at.at
    (sym c.locate.ensures.place ∙ c.in_ok-at.was)
    c.loaded_at.result.now)
