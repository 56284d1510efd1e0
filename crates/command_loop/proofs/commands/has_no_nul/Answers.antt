use Rattle.std.proofs.Common.{◌∙◌}
use Rattle.command_loop.proofs.FieldLemmas.{finds-no-nul, negate}
use Rattle.command_loop.proofs.commands.has_no_nul.Goals as goal

pub returns : goal.returns
returns c = negate _ _ c.is_none.ensures ∙ finds-no-nul _ _ c.find_byte.ensures
