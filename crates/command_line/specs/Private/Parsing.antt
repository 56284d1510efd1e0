-- The results of parsing the parts of a command line.
use Rattle.std.specs.Prelude.{◌≡◌, ◌≢◌, ℕ, List, [], Option, Result, Err, map, ⊤}
use Rattle.std.specs.Option.{option_map_or}
use Rattle.std.specs.Borrow.{Bor}
use Rattle.clap.specs.Values.{kind_of}
use Rattle.clap.specs.declared.error.Error.{Error}
use Rattle.clap.specs.declared.error.kind.ErrorKind.TheVariants.{OutOfMemory}
use Rattle.command_line.specs.declared.faults.CliFault.{CliFault}
use Rattle.command_line.specs.declared.faults.CliFault.TheVariants.{Usage, Address, Memory}

-- the first argument that is not a number, or out of memory
abbrev pub IsInvalidArgument : Result (List ℕ) (List ℕ) → CliFault → Type 0
IsInvalidArgument outcome (Address word) = outcome ≡ Err word.now
IsInvalidArgument outcome (Usage error) = ⊥
IsInvalidArgument outcome Memory = ⊤

-- an error of the parser, which may be out of memory
abbrev pub IsFaultOf : Error → CliFault → Type 0
IsFaultOf error (Usage same) = (same ≡ error) × (kind_of error ≢ OutOfMemory)
IsFaultOf error (Address word) = ⊥
IsFaultOf error Memory = kind_of error ≡ OutOfMemory

-- the strings of optional references
abbrev pub texts_of : Option (Bor (List (Bor (List ℕ)))) → List (List ℕ)
texts_of words = option_map_or (λ ws. map (λ w. w.now) ws.now) words []
