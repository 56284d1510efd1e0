use Rattle.command_loop.proofs.FieldLemmas.{no-space, one-space}
use Rattle.command_loop.proofs.commands.cut.Goals as goal

pub returns-in-None : goal.returns-in-None
returns-in-None c = no-space _ c.in-None.ensures

pub returns-in-Some : goal.returns-in-Some
returns-in-Some c = one-space _ _ c.in-Some.ensures
