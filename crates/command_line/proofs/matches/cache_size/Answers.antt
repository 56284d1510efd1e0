use Rattle.std.proofs.Common.{subst, codes, ℕ}
use Rattle.clap.proofs.WalkLemmas.{one_text-rows}
use Rattle.clap.specs.Matches.{found_of}
use Rattle.command_line.specs.Settings.{IsCacheSize}
use Rattle.command_line.proofs.SizeLemmas.{size-read, size-not-read}
use Rattle.command_line.proofs.matches.cache_size.Goals as goal

pub returns-in-Some : goal.returns-in-Some
returns-in-Some c =
    subst (λ o. IsCacheSize o c.in-Some.size)
    (one_text-rows (found_of c.args.matches.now) (codes "cache"))
    (size-read ℕ _ _ c.in-Some.ensures.none
    (λ t is. (c.in-Some.ensures.value t is).0))

pub returns-in-None : goal.returns-in-None
returns-in-None c =
    subst (λ o. IsCacheSize o 1024)
    (one_text-rows (found_of c.args.matches.now) (codes "cache"))
    (size-not-read _ _
    (λ t is. let read = c.in-None.ensures.value t is in (read.0, read.1.0)))
