use Rattle.std.proofs.Common.{◌≡◌, drop, map}
use Rattle.command_line.specs.Settings.{numbers_of}
use Rattle.command_line.proofs.WordLemmas.{with_front}
use Rattle.command_line.proofs.words.numbers.Given as goal

abbrev pub invariant-loop-word : goal.invariant-loop-word
invariant-loop-word l = with_front l.numbers.items
    (numbers_of (drop l.word-index (map (λ w. w.now) l.words)))
    ≡ numbers_of (map (λ w. w.now) l.words)
