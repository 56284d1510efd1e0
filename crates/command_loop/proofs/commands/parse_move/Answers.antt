use Rattle.std.proofs.Common.{◌≡◌, ◌∷◌, ◌∙◌, sym, refl}
use Rattle.command_loop.specs.Requests.{fields}
use Rattle.command_loop.proofs.FieldLemmas.{move-more}
use Rattle.command_loop.proofs.commands.parse_move.Goals as goal

pub returns-then-is_some : goal.returns-then-is_some
returns-then-is_some c =
    let first : fields c.in-Some.operands.now ≡ c.cut.result.0.now
    ∷ fields c.in-Some-rest.rest.now =
    c.cut.ensures ∙ (rw c.in-Some-rest.is refl) in
    rw c.in-Some.is (sym (move-more _ _ _ _ c.cut-2.result.1 first c.cut-2.ensures
    (sym c.is_some.ensures ∙ c.if-is_some.true)))
