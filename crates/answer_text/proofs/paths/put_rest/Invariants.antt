use Rattle.std.proofs.Common.{◌≡◌, ◌++◌, List, ℕ}
use Rattle.std.specs.List.{flat_map}
use Rattle.answer_text.specs.Pending.{Put}
use Rattle.answer_text.specs.Private.Paths.{after_slash}
use Rattle.answer_text.proofs.paths.put_rest.Given as goal

abbrev pub invariant-loop-part : goal.invariant-loop-part
invariant-loop-part g l =
    ((done : List (List ℕ)) × (l.initial.part-iterator ≡ done ++ l.part-iterator)
    × Put (g.W.Sink.written l.initial.writer) (g.W.Sink.written l.writer) l.initial.pending
    l.pending (flat_map after_slash done))
    × (g.W.Sink.failures l.writer ≡ g.W.Sink.failures l.initial.writer)
