-- The outcome of a request, before it is printed.
use Rattle.std.specs.Prelude.{◌≡◌, List, map, Result, ⊤}
use Rattle.module_map.specs.World.{World}
use Rattle.module_map.specs.Answers.{asked}
use Rattle.module_map.specs.Listing.{list_item}
use Rattle.command_loop.specs.declared.commands.BadLine.{BadLine}
use Rattle.command_loop.specs.declared.request.Done.{Done}
use Rattle.command_loop.specs.declared.request.Done.TheVariants as done
use Rattle.command_loop.specs.Requests.{Request}
use Rattle.command_loop.specs.Replies.{Outcome, Reply, step, question, overlap_name, answer_at}
use Rattle.command_loop.specs.Replies.Reply.{Unreadable, NotFetched, Refused, LoadedAt, Unloaded}
use Rattle.command_loop.specs.Replies.Reply.{MovedTo, AllListed, Answered}
use Rattle.command_loop.specs.Output.{Exchanges, Asked}

-- the reply that is printed for it
abbrev pub reply_of : World → Done → Reply
reply_of world (done.Unreadable fault) = Unreadable fault
reply_of world (done.NotFetched fault) = NotFetched fault
reply_of world (done.Refused fault) = Refused fault (overlap_name world fault)
reply_of world (done.LoadedAt name extent) = LoadedAt name.now extent.low extent.high
reply_of world (done.Unloaded name) = Unloaded name.now
reply_of world (done.MovedTo name extent) = MovedTo name.now extent.low extent.high
reply_of world done.Listed = AllListed (map list_item world.modules)
reply_of world (done.Asked found) = Answered (answer_at world found.address)

-- the result of an ask is the current result of the modules
abbrev pub IsCurrent : World → Done → Type 0
IsCurrent world (done.Asked found) = found ≡ asked world found.address
IsCurrent world other = ⊤

-- the request was performed, but its reply is not written yet
pub record Performs (request : Result Request BadLine) (old new : World) (asked asked' : Exchanges)
    (result : Done) : Type 0 where
  pub outcomes : List Outcome
  pub answered : Asked asked asked' (question request) outcomes
  pub steps : new ≡ (step old request outcomes).world
  pub replies : reply_of new result ≡ (step old request outcomes).reply
  pub current : IsCurrent new result
