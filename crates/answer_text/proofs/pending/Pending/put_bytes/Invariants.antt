use Rattle.std.proofs.Common.{◌≡◌, take, map}
use Rattle.answer_text.specs.Pending.{Put}
use Rattle.answer_text.specs.Printable.{printable}
use Rattle.answer_text.proofs.pending.Pending.put_bytes.Given as goal

abbrev pub invariant-loop-byte : goal.invariant-loop-byte
invariant-loop-byte g l =
    Put (g.W.Sink.written l.initial.writer) (g.W.Sink.written l.writer) l.initial.self l.self
    (map printable (take l.byte-index l.text))
    × (g.W.Sink.failures l.writer ≡ g.W.Sink.failures l.initial.writer)
