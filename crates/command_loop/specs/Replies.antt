-- The reply to each request, and the world after it.
use Rattle.std.specs.Prelude.{ℕ, Bool, List, [], ◌∷◌, map, find, Option, None, Some, Result, Ok}
use Rattle.std.specs.Prelude.{Err, if◌then◌else◌}
use Rattle.module_map.specs.World.{World, Loaded, start_of, end_of, is_named, moved_to, name_at}
use Rattle.module_map.specs.Changes.{is_taken, load_fault, with_module, without_module, move_fault}
use Rattle.module_map.specs.Changes.{with_moved}
use Rattle.module_map.specs.Answers.{frames_at}
use Rattle.module_map.specs.Answers as answers
use Rattle.module_map.specs.Listing.{Listed, list_item}
use Rattle.module_map.specs.declared.faults.MapFault.{MapFault}
use Rattle.module_map.specs.declared.faults.MapFault.TheVariants.{NoModule, Overlap, Memory}
use Rattle.command_loop.specs.Requests.{Request}
use Rattle.command_loop.specs.Requests.Request.{Load, Unload, Move, ListAll, Ask}
use Rattle.command_loop.specs.declared.commands.BadLine.{BadLine}
use Rattle.io_streams.specs.declared.faults.FetchFault.{FetchFault}

pub data Reply : Type 0 where
  Unreadable : BadLine → Reply
  NotFetched : FetchFault → Reply
  Refused : (fault : MapFault) (overlap : List ℕ) → Reply
  LoadedAt : (name : List ℕ) (low high : ℕ) → Reply
  Unloaded : (name : List ℕ) → Reply
  MovedTo : (name : List ℕ) (low high : ℕ) → Reply
  AllListed : List Listed → Reply
  Answered : answers.Answered → Reply

-- the answer for an address
abbrev pub answer_at : World → ℕ → answers.Answered
answer_at world address = record { address = address; frames = frames_at world address }

-- the name of the module that a refused one would overlap
abbrev pub overlap_name : World → MapFault → List ℕ
overlap_name world (Overlap index) = name_at world.modules index
overlap_name world fault = []

-- the outcome of a load: the result of the source, and whether memory ran out after it
pub record Outcome : Type 0 where
  pub fetched : Result (List ℕ) FetchFault
  pub short : Bool

-- a reply, and the world after it
pub record Stepped : Type 0 where
  pub reply : Reply
  pub world : World

abbrev pub refusal_step : World → MapFault → Stepped
refusal_step world fault =
    record { reply = Refused fault (overlap_name world fault); world = world }

abbrev pub load_step : World → Loaded → Option MapFault → Stepped
load_step world m (Some fault) = refusal_step world fault
load_step world m None =
    record { reply = LoadedAt m.name (start_of m) (end_of m); world = with_module world m }

abbrev pub fetched_step : World → List ℕ → ℕ → Result (List ℕ) FetchFault → Bool → Stepped
fetched_step world name base (Err fault) short = record { reply = NotFetched fault; world = world }
fetched_step world name base (Ok bytes) short =
    let m : Loaded =
    record { name = name; base = base; bytes = bytes } in load_step world m
    (load_fault world m short)

abbrev pub unload_step : World → List ℕ → Stepped
unload_step world name =
    if is_taken name world then record { reply = Unloaded name; world = without_module world name }
    else refusal_step world NoModule

abbrev pub moved_step : World → List ℕ → Option MapFault → Option Loaded → ℕ → Stepped
moved_step world name (Some fault) m base = refusal_step world fault
moved_step world name None None base = refusal_step world NoModule
moved_step world name None (Some m) base =
    record {
      reply = MovedTo name (start_of (moved_to base m))
          (end_of (moved_to base m));
      world = with_moved world m base;
    }

abbrev pub move_step : World → List ℕ → Option Loaded → ℕ → Stepped
move_step world name m base = moved_step world name (move_fault m world base) m base

-- a load takes the first remaining outcome
abbrev pub step : World → Result Request BadLine → List Outcome → Stepped
step world (Err fault) outcomes = record { reply = Unreadable fault; world = world }
step world (Ok (Ask address)) outcomes =
    record { reply = Answered (answer_at world address); world = world }
step world (Ok ListAll) outcomes =
    record { reply = AllListed (map list_item world.modules); world = world }
step world (Ok (Unload name)) outcomes = unload_step world name
step world (Ok (Move name base)) outcomes =
    move_step world name (find (is_named name) world.modules) base
step world (Ok (Load name base path)) [] = refusal_step world Memory
step world (Ok (Load name base path)) (outcome ∷ outcomes) =
    fetched_step world name base outcome.fetched outcome.short

-- the path that the source is asked for, if any
abbrev pub question : Result Request BadLine → List (List ℕ)
question (Ok (Load name base path)) = path ∷ []
question other = []
