use Rattle.std.proofs.Common.{◌≡◌, ◌++◌, List}
use Rattle.std.specs.List.{flat_map}
use Rattle.addr_table.specs.Frames.{Frame}
use Rattle.answer_text.specs.Pending.{Put}
use Rattle.answer_text.specs.Text.{later_text}
use Rattle.answer_text.proofs.printing.put_rest.Given as goal

abbrev pub invariant-loop-frame : goal.invariant-loop-frame
invariant-loop-frame g l =
    ((done : List Frame) × (l.initial.frame-iterator ≡ done ++ l.frame-iterator)
    × Put (g.W.Sink.written l.initial.writer) (g.W.Sink.written l.writer) l.initial.pending
    l.pending
    (flat_map (later_text l.options) done))
    × (g.W.Sink.failures l.writer ≡ g.W.Sink.failures l.initial.writer)
