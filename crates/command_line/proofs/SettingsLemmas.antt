-- The settings that the parser's rows specify, or the reason for refusing them.
use Rattle.std.proofs.Common.{◌≡◌, ◌∙◌, sym, ap, inl, inr, List, ℕ, Result}
use Rattle.std.specs.Prelude.{Option, Some, None}
use Rattle.clap.specs.Walk.{Row}
use Rattle.clap.specs.Simple.{matches_of}
use Rattle.command_line.specs.CommandLine.{our_app}
use Rattle.command_line.specs.Settings.{words_of, numbers_of}
use Rattle.command_line.specs.Settings.{settings_of, settings_with}
use Rattle.command_line.specs.Refusals.{IsAccepted, IsRefused}
use Rattle.command_line.specs.Private.Parsing.{IsInvalidArgument, IsFaultOf, texts_of}
use Rattle.std.specs.Prelude.{option_map, map, []}
use Rattle.std.specs.Option.{option_map_or}
use Rattle.std.specs.Borrow.{Bor}
use Rattle.command_line.specs.declared.faults.CliFault.{CliFault}
use Rattle.command_line.specs.declared.faults.CliFault.TheVariants.{Usage, Address, Memory}
use Rattle.clap.specs.declared.error.Error.{Error}
use Rattle.clap.specs.Kinds.{HasKind}
use Rattle.clap.specs.Faults.{fault_of}

-- the rows are the parsed matches
module _ (words : List (List ℕ)) (rows : List Row) (are : rows ≡ matches_of our_app words) where
  pub with_numbers : (outcome : Result (List ℕ) (List ℕ)) → numbers_of (words_of rows) ≡ outcome
      → settings_of (matches_of our_app words) ≡ settings_with rows outcome
  unfolding settings_of
  with_numbers outcome gives = ap settings_of (sym are) ∙ ap (settings_with rows) gives

-- an address is invalid
pub word-refused : (words : List (List ℕ)) (rows : List Row) (outcome : Result (List ℕ) (List ℕ))
    (fault : CliFault) → IsInvalidArgument outcome fault → IsAccepted words
    → settings_of (matches_of our_app words) ≡ settings_with rows outcome → IsRefused words fault
word-refused words rows outcome (Usage e) bad accepted is = absurd bad
word-refused words rows outcome (Address w) bad accepted is =
    record { 0 = accepted; 1 = is ∙ ap (settings_with rows) bad }
word-refused words rows outcome Memory bad accepted is = tt

-- the strings of optional references are the strings of the rows
pub texts-are : (words : Option (Bor (List (Bor (List ℕ))))) (o : Option (List (List ℕ)))
    → option_map (λ ws. map (λ (w : Bor (List ℕ)). w.now) ws.now) words ≡ o
    → texts_of words ≡ option_map_or (λ texts. texts) o []
texts-are None o is = ap (λ (l : Option (List (List ℕ))). option_map_or (λ texts. texts) l []) is
texts-are (Some ws) o is = ap (λ (l : Option (List (List ℕ))). option_map_or (λ texts. texts) l [])
    is
