-- When the arguments of a command line are refused, and for which reason.
use Rattle.std.specs.Prelude.{◌≡◌, ℕ, List, [], Ok, Err, ⊤, codes}
use Rattle.clap.specs.Walk.{one_of}
use Rattle.clap.specs.Simple.{matches_of}
use Rattle.clap.specs.Kinds.{IsAmong}
use Rattle.clap.specs.Faults.{fault_of}
use Rattle.clap.specs.Values.{kind_of}
use Rattle.io_streams.specs.declared.options.Options.{Options}
use Rattle.command_line.specs.CommandLine.{our_app}
use Rattle.command_line.specs.Settings.{settings_of, settings_in, IsCacheSize}
use Rattle.command_line.specs.declared.faults.CliFault.{CliFault}
use Rattle.command_line.specs.declared.faults.CliFault.TheVariants.{Usage, Address, Memory}

-- the parser accepts the arguments
abbrev pub IsAccepted : List (List ℕ) → Type 0
IsAccepted words = fault_of our_app words ≡ []

-- the options are the ones that the arguments specify
abbrev pub AreOptions : List (List ℕ) → Options → Type 0
AreOptions words options =
    IsAccepted words × IsCacheSize (one_of (codes "cache") (matches_of our_app words)) options.cache
    × (settings_of (matches_of our_app words) ≡ Ok (settings_in options))

-- A parser error is of a kind that the parser returns for these arguments. A refused address is the
-- first invalid one. Out of memory may replace any outcome.
abbrev pub IsRefused : List (List ℕ) → CliFault → Type 0
IsRefused words (Usage error) = IsAmong (kind_of error) (fault_of our_app words)
IsRefused words (Address word) =
    IsAccepted words × (settings_of (matches_of our_app words) ≡ Err word.now)
IsRefused words Memory = ⊤
