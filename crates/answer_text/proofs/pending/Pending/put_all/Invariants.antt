use Rattle.std.proofs.Common.{◌≡◌, take}
use Rattle.std.specs.List.{flat_map}
use Rattle.answer_text.specs.Pending.{Put}
use Rattle.answer_text.proofs.pending.Pending.put_all.Given as goal

abbrev pub invariant-loop-text : goal.invariant-loop-text
invariant-loop-text g l =
    Put (g.W.Sink.written l.initial.writer) (g.W.Sink.written l.writer) l.initial.self l.self
    (flat_map (λ text. text.now) (take l.text-index l.texts))
    × (g.W.Sink.failures l.writer ≡ g.W.Sink.failures l.initial.writer)
