use Rattle.std.proofs.Common.{◌∙◌, sym, refl}
use Rattle.command_loop.proofs.FieldLemmas.{load-cut}
use Rattle.command_loop.proofs.commands.parse_load.Goals as goal

pub returns : goal.returns
returns c =
    rw c.in-Some.is (c.check_load.ensures ∙ sym
    (load-cut c.in-Some.operands.now c.in-Some-rest.rest.now c.in-Some-path.path.now
    c.cut.result.0.now c.cut-2.result.0.now
    (c.cut.ensures ∙ (rw c.in-Some-rest.is refl)) (c.cut-2.ensures ∙ (rw c.in-Some-path.is refl))))
