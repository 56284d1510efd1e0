use Rattle.std.specs.Prelude.{None, Some}
use Rattle.std.proofs.lemmas.Iterator.Consumers.{nth_from_yields_List, YieldsList-from_first}
use Rattle.module_map.specs.Listing.{Listed, item_data, listing}
use Rattle.std.proofs.Common.{List}
use Rattle.command_loop.proofs.ReplyLemmas.{item-name}
use Rattle.command_loop.proofs.replies.name_at.Goals as goal

pub returns-in-None : goal.returns-in-None
returns-in-None c =
    let all : List Listed = listing c.args.modules.now.world in
    item-name None c.args.modules.now.world.modules c.args.index
    (nth_from_yields_List None _ c.args.index c.in-None.ensures.ran
    (YieldsList-from_first item_data (λ s. s) all c.list.ensures.modules))

pub returns-in-Some : goal.returns-in-Some
returns-in-Some c =
    let all : List Listed = listing c.args.modules.now.world in
    item-name (Some c.in-Some.item) c.args.modules.now.world.modules c.args.index
    (nth_from_yields_List (Some c.in-Some.item) _ c.args.index c.in-Some.ensures.ran
    (YieldsList-from_first item_data (λ s. s) all c.list.ensures.modules))
