use Rattle.std.proofs.Common.{sym, ◌∙◌}
use Rattle.command_loop.proofs.FieldLemmas.{unload-more}
use Rattle.command_loop.proofs.commands.parse_unload.Goals as goal

pub returns-then-is_some : goal.returns-then-is_some
returns-then-is_some c = rw c.in-Some.is
    (sym (unload-more _ _ c.cut.result.1 c.cut.ensures (sym c.is_some.ensures ∙ c.if-is_some.true)))
