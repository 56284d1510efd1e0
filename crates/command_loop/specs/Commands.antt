-- The requests of parsed commands.
use Rattle.std.specs.Prelude.{Result, Ok, Err}
use Rattle.command_loop.specs.Requests.{Request}
use Rattle.command_loop.specs.Requests.Request.{Load, Unload, Move, ListAll, Ask}
use Rattle.command_loop.specs.declared.commands.BadLine.{BadLine}
use Rattle.command_loop.specs.declared.commands.Command.{Command}
use Rattle.command_loop.specs.declared.commands.Command.TheVariants as command

abbrev pub request_of : Command → Request
request_of (command.Load name base path) = Load name.now base path.now
request_of (command.Unload name) = Unload name.now
request_of (command.Move name base) = Move name.now base
request_of command.List = ListAll
request_of (command.Ask address) = Ask address

-- the request of a parsed line, or the reason why there is none
abbrev pub parse_result : Result Command BadLine → Result Request BadLine
parse_result (Ok c) = Ok (request_of c)
parse_result (Err fault) = Err fault
