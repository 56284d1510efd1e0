use Rattle.std.proofs.Common.{arith}
use Rattle.std.proofs.lemmas.Bool.Decides.{nat_tests}
use Rattle.std.proofs.lemmas.Str.{is_utf8-from_IsUtf8}
use Rattle.command_loop.specs.Requests.{is_path}
use Rattle.command_loop.proofs.FieldLemmas.{not-utf8}
use Rattle.command_loop.proofs.commands.parse_path.Goals as goal

pub returns-in-Ok : goal.returns-in-Ok
unfolding is_path
returns-in-Ok c = (
  let u = is_utf8-from_IsUtf8 c.args.text.now c.in-Ok.ensures.cases.1 in
      grind (arith, nat_tests, u, c.if-not-has_no_nul.ensures, c.has_no_nul.ensures),
  c.in-Ok.ensures.cases.0,
)

pub returns-in-Err : goal.returns-in-Err
unfolding is_path
returns-in-Err c = let u = not-utf8 c.args.text.now c.in-Err.ensures.cases.0 in
    grind (arith, nat_tests, u)
