use Rattle.std.proofs.Common.{◌≡◌, ◌++◌, List}
use Rattle.std.specs.List.{flat_map}
use Rattle.module_map.specs.Listing.{Listed}
use Rattle.answer_text.specs.Pending.{Put}
use Rattle.command_loop.specs.Text.{module_text}
use Rattle.command_loop.proofs.replies.put_modules.Given as goal

abbrev pub invariant-loop-item : goal.invariant-loop-item
invariant-loop-item g l =
    ((done : List Listed) × (l.initial.item-iterator ≡ done ++ l.item-iterator)
    × Put (g.W.Sink.written l.initial.writer) (g.W.Sink.written l.writer) l.initial.pending
    l.pending (flat_map module_text done))
    × (g.W.Sink.failures l.writer ≡ g.W.Sink.failures l.initial.writer)
