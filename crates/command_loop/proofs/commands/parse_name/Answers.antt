use Rattle.std.proofs.Common.{sym, arith}
use Rattle.std.proofs.lemmas.Bool.Decides.{nat_tests}
use Rattle.command_loop.specs.Requests.{is_name}
use Rattle.command_loop.proofs.FieldLemmas.{name_is_text}
use Rattle.command_loop.proofs.commands.parse_name.Goals as goal

pub returns-in-Ok : goal.returns-in-Ok
unfolding is_name
returns-in-Ok c = (
  grind (
    arith,
    nat_tests,
    c.if-not-are_name_parts.ensures,
    c.are_name_parts.ensures,
  ),
  c.in-Ok.ensures.cases.0,
)

pub returns-in-Err : goal.returns-in-Err
unfolding is_name
returns-in-Err c = absurd (c.in-Err.ensures.cases.0
    (name_is_text _ (sym c.if-not-are_name_parts.ensures)))
