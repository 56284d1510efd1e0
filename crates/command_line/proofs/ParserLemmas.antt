-- The parser's description of the command.
use Rattle.std.proofs.Common.{◌≡◌, ◌∙◌, sym, ap, subst, refl, true, List, ℕ, Result, Ok, Err, []}
use Rattle.std.specs.Prelude.{MatchResult, IfOk}
use Rattle.clap.specs.Walk.{rows_of}
use Rattle.clap.specs.Matches.{found_of}
use Rattle.clap.specs.Simple.{App, is_simple, matches_of, HasMatchesOf}
use Rattle.clap.specs.Kinds.{FailsBy, HasKind}
use Rattle.clap.specs.Faults.{fault_of, is_simple_and_free}
use Rattle.clap.specs.declared.parser.matches.ArgMatches.{ArgMatches}
use Rattle.clap.specs.declared.error.Error.{Error}
use Rattle.clap.proofs.OnLiterals.{clap_on_literals}
use Rattle.command_line.specs.CommandLine.{our_app, all_rules, with_version}

pub our_app-is_simple : is_simple our_app ≡ true
unfolding clap_on_literals our_app
our_app-is_simple = refl

pub our_app-is-free : is_simple_and_free our_app ≡ true
unfolding clap_on_literals our_app
our_app-is-free = refl

-- the command is the one that its description defines
pub our_app-is : our_app ≡ with_version all_rules
unfolding our_app
our_app-is = refl

-- parsing with a command gives the result of any equal description
pub parse-of-equal : (a b : App) (words : List (List ℕ)) (r : Result ArgMatches Error) → a ≡ b
    → is_simple b ≡ true → is_simple_and_free b ≡ true
    → IfOk r (HasMatchesOf a words) → (is_simple_and_free a ≡ true → FailsBy (fault_of a words) r)
    → MatchResult r (λ m. (fault_of b words ≡ []) × (rows_of (found_of m) ≡ matches_of b words))
    (HasKind (fault_of b words))
parse-of-equal a b words (Ok m) same simple free gives fails = record {
  0 = sym (ap (λ (x : App). fault_of x words) same) ∙ fails (ap is_simple_and_free same ∙ free);
  1 = (gives (ap is_simple same ∙ simple)).0 ∙ ap (λ (x : App). matches_of x words) same;
}
parse-of-equal a b words (Err e) same simple free gives fails =
    subst (λ (x : App). HasKind (fault_of x words) e) same
    (fails (ap is_simple_and_free same ∙ free))
