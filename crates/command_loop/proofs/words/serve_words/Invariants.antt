use Rattle.std.proofs.Common.{◌≡◌, take, map}
use Rattle.command_loop.specs.Output.{ask_of}
use Rattle.command_loop.specs.Private.Progress.{state_of, ServedInOrder}
use Rattle.command_loop.proofs.words.serve_words.Given as goal

abbrev pub invariant-loop-word : goal.invariant-loop-word
invariant-loop-word g l =
    ServedInOrder l.options
    (state_of l.initial.modules.world (g.O.Objects.asked l.initial.source)
    (g.W.Sink.written l.initial.writer))
    (map ask_of (take l.word-index l.words))
    (state_of l.modules.world (g.O.Objects.asked l.source) (g.W.Sink.written l.writer))
    × (g.W.Sink.failures l.writer ≡ g.W.Sink.failures l.initial.writer)
