-- The output of a whole run, and the questions to its source.
use Rattle.std.specs.Prelude.{◌≡◌, ℕ, ◌≤◌, List, [], ◌∷◌, ◌++◌, map, drop, length, flat_map, zip}
use Rattle.std.specs.Prelude.{Option, None, Some, Result, Ok, Err, Bool, string_bytes, codes}
use Rattle.std.specs.Prelude.{option_map, ⊤}
use Rattle.std.specs.Option.{option_to_list}
use Rattle.std.specs.Io.KnownBytes.{Appends, Consumes, IsAtEnd}
use Rattle.module_map.specs.World.{World, Loaded, no_modules}
use Rattle.module_map.specs.Changes.{load_fault, with_module}
use Rattle.module_map.specs.declared.faults.MapFault.{MapFault}
use Rattle.io_streams.specs.Streams.{Grows, IsBeginning}
use Rattle.io_streams.specs.declared.faults.FetchFault.{FetchFault}
use Rattle.io_streams.specs.declared.options.Options.{Options}
use Rattle.command_loop.specs.declared.commands.BadLine.{BadLine}
use Rattle.io_streams.specs.declared.faults.ExeFault.{ExeFault}
use Rattle.io_streams.specs.declared.faults.ExeFault.TheVariants.{NotFetched, NotLoaded}
use Rattle.io_streams.specs.declared.faults.RunFault.{RunFault}
use Rattle.io_streams.specs.declared.faults.RunFault.TheVariants as fault
use Rattle.command_loop.specs.Lines.{lines}
use Rattle.command_loop.specs.Requests.{Request, requests, parse}
use Rattle.command_loop.specs.Requests.Request.{Ask}
use Rattle.command_loop.specs.Replies.{Outcome, step, question}
use Rattle.command_loop.specs.Text.{text}

abbrev pub Requests : Type 0
Requests = List (Result Request BadLine)

abbrev pub Exchanges : Type 0
Exchanges = Option (List (List ℕ × Result (List ℕ) FetchFault))

-- ---- the start

-- the path of the object that is loaded first
abbrev pub exe_of : Options → Option (List ℕ)
exe_of options = option_map string_bytes options.exe

abbrev pub ask_of : ℕ → Result Request BadLine
ask_of address = Ok (Ask address)

-- the addresses of the command line as requests
abbrev pub asks : Options → Requests
asks options = map ask_of options.words.items

abbrev pub start_world_with : Loaded → Option MapFault → Result World ExeFault
start_world_with m (Some why) = Err (NotLoaded why)
start_world_with m None = Ok (with_module no_modules m)

abbrev pub exe_module : List ℕ → Loaded
exe_module bytes = record { name = codes "exe"; base = 0; bytes = bytes }

abbrev pub start_world_of : Result (List ℕ) FetchFault → Bool → Result World ExeFault
start_world_of (Err why) short = Err (NotFetched why)
start_world_of (Ok bytes) short =
    start_world_with (exe_module bytes) (load_fault no_modules (exe_module bytes) short)

-- the world in which a run starts: without modules, or with the module of the first outcome
abbrev pub start_world : Option (List ℕ) → List Outcome → Result World ExeFault
start_world None outcomes = Ok no_modules
start_world (Some path) [] = Ok no_modules
start_world (Some path) (outcome ∷ outcomes) = start_world_of outcome.fetched outcome.short

-- ---- requests in order

-- the remaining outcomes after a request
abbrev pub later : Result Request BadLine → List Outcome → List Outcome
later request outcomes = drop (length (question request)) outcomes

-- the replies, each to a request in the world that the requests before it leave
abbrev pub replies : Options → World → Requests → List Outcome → List ℕ
replies options world [] outcomes = []
replies options world (request ∷ requests) outcomes =
    text options (step world request outcomes).reply
    ++ replies options (step world request outcomes).world requests (later request outcomes)

-- the world after these requests
abbrev pub world_after : World → Requests → List Outcome → World
world_after world [] outcomes = world
world_after world (request ∷ requests) outcomes =
    world_after (step world request outcomes).world requests (later request outcomes)

-- the paths that the source is asked for, in order
abbrev pub questions : Requests → List (List ℕ)
questions requests = flat_map question requests

-- each question has one outcome, and the source was asked these questions and returned these
-- results
pub record Asked (old new : Exchanges) (paths : List (List ℕ))
    (outcomes : List Outcome) : Type 0 where
  pub each : length outcomes ≡ length paths
  pub asked : Grows old new (zip paths (map (λ (outcome : Outcome). outcome.fetched) outcomes))

-- ---- the effects of a run

-- a run that started this way has served exactly these requests
pub record Answers (options : Options) (exe : Option (List ℕ)) (requests : Requests)
    (asked asked' : Exchanges) (written written' : Option (List ℕ)) : Type 0 where
  pub first : List Outcome
  pub others : List Outcome
  pub world : World
  pub starts : start_world exe first ≡ Ok world
  pub one : length first ≡ length (option_to_list exe)
  pub answered : Asked asked asked' (option_to_list exe ++ questions requests) (first ++ others)
  pub replied : Appends written written' (replies options world requests others)

-- the requests of a successful run: the addresses of the command line, or the lines of all input;
-- no input is read if there are addresses
abbrev pub ServedBy : Requests → Option (List ℕ) → Option (List ℕ) → (Requests → Type 0) → Type 0
ServedBy [] left left' P = (input : List ℕ) × Consumes left left' input × IsAtEnd left'
    × P (requests (lines input))
ServedBy (word ∷ words) left left' P = P (word ∷ words) × (left' ≡ left)

abbrev pub Served : Options → Option (List ℕ) → Option (List ℕ) → (Requests → Type 0) → Type 0
Served options = ServedBy (asks options)

-- All requests before the current one were served, and at most a prefix of its reply is written.
pub record StoppedAt (options : Options) (exe : Option (List ℕ)) (before : Requests)
    (request : Result Request BadLine) (asked asked' : Exchanges)
    (written written' : Option (List ℕ)) : Type 0 where
  pub first : List Outcome
  pub others : List Outcome
  pub world : World
  pub starts : start_world exe first ≡ Ok world
  pub one : length first ≡ length (option_to_list exe)
  pub answered : Asked asked asked' (option_to_list exe ++ questions (before ++ request ∷ []))
      (first ++ others)
  pub part : List ℕ
  pub begins : IsBeginning part
      (text options (step (world_after world before others) request
      (drop (length (questions before)) others)).reply)
  pub replied : Appends written written' (replies options world before others ++ part)

-- the current line ends at a line feed, or at the end of input
abbrev pub EndsLine : List ℕ → Option (List ℕ) → Type 0
EndsLine [] left = IsAtEnd left
EndsLine (byte ∷ bytes) left = byte ≡ 10

-- the input so far ends with a line, the last of its lines
pub record EndsWith (read : List ℕ) (before : List (List ℕ)) (line : List ℕ) : Type 0 where
  pub front : List ℕ
  pub ends : read ≡ front ++ line
  pub all : lines read ≡ before ++ line ∷ []

-- a run stopped at an address of the command line, or at a line that is followed by at most one
-- piece of input
abbrev pub StoppedBy : Requests → Option (List ℕ) → Option (List ℕ)
    → (Requests → Result Request BadLine → Type 0) → Type 0
StoppedBy [] left left' P = (read after : List ℕ) × (before : List (List ℕ)) × (line : List ℕ)
    × Consumes left left' (read ++ after) × (length after ≤ 4096) × EndsLine after left'
    × EndsWith read before line × P (requests before) (parse line)
StoppedBy (word ∷ words) left left' P = (before after : Requests)
    × (request : Result Request BadLine) × (word ∷ words ≡ before ++ request ∷ after)
    × P before request × (left' ≡ left)

abbrev pub Stopped : Options → Option (List ℕ) → Option (List ℕ) → Exchanges → Exchanges
    → Option (List ℕ) → Option (List ℕ) → Type 0
Stopped options left left' asked asked' written written' =
    StoppedBy (asks options) left left'
    (λ before request. StoppedAt options (exe_of options) before request asked asked' written
    written')

-- the object of the command line was refused for this reason, and the source was asked only for its
-- path
abbrev pub IsRefused : Option (List ℕ) → Exchanges → Exchanges → ExeFault → Type 0
IsRefused exe asked asked' why = (outcome : Outcome) × (start_world exe (outcome ∷ []) ≡ Err why)
    × Asked asked asked' (option_to_list exe) (outcome ∷ [])

abbrev pub Refused : Option (List ℕ) → Option (List ℕ) → Option (List ℕ) → Exchanges → Exchanges
    → Option (List ℕ) → Option (List ℕ) → RunFault → Type 0
Refused exe left left' asked asked' written written' (fault.Exe why) =
    IsRefused exe asked asked' why × (written' ≡ written) × (left' ≡ left)
Refused exe left left' asked asked' written written' other = ⊤
