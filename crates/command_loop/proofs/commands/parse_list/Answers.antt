use Rattle.std.proofs.Common.{sym}
use Rattle.command_loop.proofs.FieldLemmas.{list-more}
use Rattle.command_loop.proofs.commands.parse_list.Goals as goal

pub returns-in-Some : goal.returns-in-Some
returns-in-Some c = rw c.in-Some.is (sym (list-more c.in-Some.field-0.now))
