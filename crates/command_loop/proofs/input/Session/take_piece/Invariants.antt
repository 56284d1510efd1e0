use Rattle.std.proofs.Common.{◌≡◌, length}
use Rattle.command_loop.specs.Private.Progress.{state_of}
use Rattle.command_loop.proofs.PieceLemmas.{ServedTo}
use Rattle.command_loop.proofs.input.Session.take_piece.Given as goal

abbrev pub invariant-lines : goal.invariant-lines
invariant-lines g l =
    ServedTo l.options l.piece l.rest
    (state_of l.initial.self.modules.world (g.O.Objects.asked l.initial.source)
    (g.W.Sink.written l.initial.writer)) l.initial.self.line
    (state_of l.self.modules.world (g.O.Objects.asked l.source) (g.W.Sink.written l.writer))
    l.self.line
    × (g.W.Sink.failures l.writer ≡ g.W.Sink.failures l.initial.writer)

abbrev pub decreases-lines : goal.decreases-lines
decreases-lines g l = length l.rest
