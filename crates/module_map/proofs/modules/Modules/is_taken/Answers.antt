use Rattle.std.proofs.Common.{◌∙◌, ap}
use Rattle.std.specs.Prelude.{is_some}
use Rattle.module_map.specs.World.{is_named}
use Rattle.module_map.specs.Changes.{is_taken}
use Rattle.module_map.proofs.Worlds.{any_is}
use Rattle.module_map.proofs.modules.Modules.is_taken.Goals as goal

pub returns : goal.returns
returns c =
    c.is_some.ensures ∙ ap is_some c.position.ensures.place ∙ any_is (is_named c.args.name.now)
    c.self.inside.sorted
    ∙ ap (λ m. is_taken c.args.name.now m.world) c.self.view_is
