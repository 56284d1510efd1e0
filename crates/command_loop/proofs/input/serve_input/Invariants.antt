use Rattle.std.proofs.Common.{◌≡◌, length}
use Rattle.command_loop.specs.Private.Progress.{state_of}
use Rattle.command_loop.proofs.InputLemmas.{HasRead}
use Rattle.command_loop.proofs.input.serve_input.Given as goal

abbrev pub invariant-pieces : goal.invariant-pieces
invariant-pieces g l =
    HasRead l.options
    (state_of l.fn.modules.world (g.O.Objects.asked l.fn.source) (g.W.Sink.written l.fn.writer))
    (g.R.Feed.left l.fn.reader) (g.R.Feed.left l.reader)
    (state_of l.session.modules.world (g.O.Objects.asked l.source) (g.W.Sink.written l.writer))
    l.session.line
    × (length l.piece ≡ 4096)
    × (g.R.Feed.failures l.reader ≡ g.R.Feed.failures l.fn.reader)
    × (g.W.Sink.failures l.writer ≡ g.W.Sink.failures l.fn.writer)

abbrev pub decreases-pieces : goal.decreases-pieces
decreases-pieces g l = g.R.Feed.reads_left l.reader
