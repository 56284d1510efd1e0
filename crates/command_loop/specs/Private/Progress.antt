-- The progress of a run.
use Rattle.std.specs.Prelude.{◌≡◌, ℕ, ◌≤◌, List, [], ◌∷◌, ◌++◌, length, drop, Option, Result, Ok}
use Rattle.std.specs.Prelude.{Err}
use Rattle.std.specs.Option.{option_to_list}
use Rattle.std.specs.Io.KnownBytes.{Appends, Consumes, IsAtEnd}
use Rattle.module_map.specs.World.{World}
use Rattle.io_streams.specs.Streams.{IsBeginning}
use Rattle.io_streams.specs.declared.options.Options.{Options}
use Rattle.command_loop.specs.declared.commands.BadLine.{BadLine}
use Rattle.io_streams.specs.declared.faults.RunFault.{RunFault}
use Rattle.io_streams.specs.declared.faults.RunFault.TheVariants.{Reading, Writing, Memory, Exe}
use Rattle.command_loop.specs.Requests.{Request, requests, parse}
use Rattle.command_loop.specs.Lines.{lines, ended_lines, open_line, within_limit}
use Rattle.command_loop.specs.Replies.{Outcome, step, question}
use Rattle.command_loop.specs.Text.{text}
use Rattle.command_loop.specs.Output.{Requests, Exchanges, start_world, replies, world_after}
use Rattle.command_loop.specs.Output.{questions, Asked, EndsLine, EndsWith}

-- the modules, the questions to the source, and the output, if contracts can name them
pub record RunState : Type 0 where
  pub world : World
  pub asked : Exchanges
  pub written : Option (List ℕ)

abbrev pub state_of : World → Exchanges → Option (List ℕ) → RunState
state_of world asked written = record { world = world; asked = asked; written = written }

-- one request was served
pub record ServesRequest (options : Options) (request : Result Request BadLine)
    (old new : RunState) : Type 0 where
  pub outcomes : List Outcome
  pub answered : Asked old.asked new.asked (question request) outcomes
  pub steps : new.world ≡ (step old.world request outcomes).world
  pub replied : Appends old.written new.written
      (text options (step old.world request outcomes).reply)

-- A request was processed, but only a prefix of its reply was written.
pub record FailsToReply (options : Options) (request : Result Request BadLine)
    (old new : RunState) : Type 0 where
  pub outcomes : List Outcome
  pub answered : Asked old.asked new.asked (question request) outcomes
  pub part : List ℕ
  pub begins : IsBeginning part (text options (step old.world request outcomes).reply)
  pub replied : Appends old.written new.written part

-- these requests were served in order
pub record ServedInOrder (options : Options) (start : RunState) (served : Requests)
    (now : RunState) : Type 0 where
  pub outcomes : List Outcome
  pub answered : Asked start.asked now.asked (questions served) outcomes
  pub world_is : now.world ≡ world_after start.world served outcomes
  pub replied : Appends start.written now.written (replies options start.world served outcomes)

-- these requests were served, and then one more, with at most a prefix of its reply written
pub record StopsAtRequest (options : Options) (start : RunState) (before : Requests)
    (request : Result Request BadLine) (asked : Exchanges)
    (written : Option (List ℕ)) : Type 0 where
  pub outcomes : List Outcome
  pub answered : Asked start.asked asked (questions (before ++ request ∷ [])) outcomes
  pub part : List ℕ
  pub begins : IsBeginning part
      (text options (step (world_after start.world before outcomes) request
      (drop (length (questions before)) outcomes)).reply)
  pub replied : Appends start.written written (replies options start.world before outcomes ++ part)

-- ---- lines

-- all ended lines of the input so far are served, and the rest is buffered
pub record ReadSoFar (options : Options) (start : RunState) (read : List ℕ) (now : RunState)
    (buffer : Option (List ℕ)) : Type 0 where
  pub handled : ServedInOrder options start (requests (ended_lines read)) now
  pub holds : buffer ≡ within_limit (open_line read)

-- The input so far ends with a line. All lines before it are served, and at most a prefix of its
-- reply is written.
pub record StopsAtLine (options : Options) (start : RunState) (read : List ℕ) (asked : Exchanges)
    (written : Option (List ℕ)) : Type 0 where
  pub before : List (List ℕ)
  pub line : List ℕ
  pub ends : EndsWith read before line
  pub halts : StopsAtRequest options start (requests before) (parse line) asked written

-- from any state of a run, these bytes advance it to the new state
abbrev pub ReadsOn : Options → List ℕ → RunState → Option (List ℕ) → RunState → Option (List ℕ)
    → Type 0
ReadsOn options bytes old buffer new buffer' = (start : RunState) (read : List ℕ)
    → ReadSoFar options start read old buffer → ReadSoFar options start (read ++ bytes) new buffer'

-- from any state of a run, it stopped at a line that ends within these bytes
abbrev pub StopsWithin : Options → List ℕ → RunState → Option (List ℕ) → Exchanges
    → Option (List ℕ) → Type 0
StopsWithin options bytes old buffer asked written = (start : RunState) (read : List ℕ)
    → ReadSoFar options start read old buffer →
    (front after : List ℕ) × (bytes ≡ front ++ after) × ((rest : List ℕ) × (after ≡ 10 ∷ rest))
    × StopsAtLine options start (read ++ front) asked written

-- how the lines of a reader are served from here on
abbrev pub ReadsLines : {a : Type 0} → Options → RunState → Option (List ℕ) → Option (List ℕ)
    → Exchanges → Option (List ℕ) → Result a RunFault → Type 0
ReadsLines options start left left' asked written (Ok done) =
    (input : List ℕ) × Consumes left left' input × IsAtEnd left'
    × ((world : World) × ServedInOrder options start (requests (lines input))
    (state_of world asked written))
ReadsLines options start left left' asked written (Err Reading) =
    (read : List ℕ) × Consumes left left' read
    × ((world : World) × ServedInOrder options start (requests (ended_lines read))
    (state_of world asked written))
ReadsLines options start left left' asked written (Err Writing) =
    (read after : List ℕ) × Consumes left left' (read ++ after) × (length after ≤ 4096)
    × EndsLine after left' × StopsAtLine options start read asked written
ReadsLines options start left left' asked written (Err Memory) = ⊥
ReadsLines options start left left' asked written (Err (Exe why)) = ⊥

-- ---- the start

-- the run has started: the source was asked for the object of the command line, if there is one
pub record HasStarted (exe : Option (List ℕ)) (asked asked' : Exchanges)
    (world : World) : Type 0 where
  pub first : List Outcome
  pub starts : start_world exe first ≡ Ok world
  pub one : length first ≡ length (option_to_list exe)
  pub answered : Asked asked asked' (option_to_list exe) first

-- ---- addresses of the command line

-- the run stopped at one of these requests
abbrev pub StopsAmong : Options → RunState → Requests → Exchanges → Option (List ℕ) → Type 0
StopsAmong options start requests asked written =
    (before after : Requests) × (request : Result Request BadLine)
    × (requests ≡ before ++ request ∷ after)
    × StopsAtRequest options start before request asked written
