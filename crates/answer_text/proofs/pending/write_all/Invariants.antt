use Rattle.std.proofs.Common.{length, ◌-◌, ◌≡◌, ◌≤◌, take}
use Rattle.std.specs.Io.KnownBytes.{Appends}
use Rattle.answer_text.proofs.pending.write_all.Given as goal

abbrev pub invariant-loop-at : goal.invariant-loop-at
invariant-loop-at g l = (l.at ≤ length l.text)
    × Appends (g.W.Sink.written l.fn.writer) (g.W.Sink.written l.writer) (take l.at l.text)
    × (g.W.Sink.failures l.writer ≡ g.W.Sink.failures l.fn.writer)

abbrev pub decreases-loop-at : goal.decreases-loop-at
decreases-loop-at g l = length l.text - l.at
