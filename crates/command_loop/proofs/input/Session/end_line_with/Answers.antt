use Rattle.std.proofs.Common.{◌∙◌, ℕ, List, length, refl, ap}
use Rattle.std.specs.Prelude.{◌==◌}
use Rattle.std.proofs.lemmas.Bool.{false≢true}
use Rattle.std.proofs.lemmas.Result.{err_from_is_err_and}
use Rattle.command_loop.proofs.ReadLemmas.{continues-whole, breaks-whole}
use Rattle.command_loop.proofs.input.Session.end_line_with.Goals as goal

pub returns-then-is_empty-clause-goes_on : goal.returns-then-is_empty-clause-goes_on
returns-then-is_empty-clause-goes_on g c = rw (← c.extend.ensures) c.end_line.ensures.goes_on

pub returns-in_err-serve_request-clause-breaks : goal.returns-in_err-serve_request-clause-breaks
returns-in_err-serve_request-clause-breaks g c =
    let p =
    err_from_is_err_and c.from_residual.result c.from_residual.ensures.1 in rw (p.1)
    (breaks-whole _ _ _ _ _ (c.if-not-is_empty.ensures.0 refl)
    (λ e. false≢true (c.if-is_empty.ensures ∙ ap (λ (xs : List ℕ). length xs == 0) e))
    (rw c.parse_line-request.ensures at c.in_err-serve_request.ensures.served))

pub returns-clause-goes_on : goal.returns-clause-goes_on
returns-clause-goes_on g c = continues-whole _ _ _ _ _ (c.if-not-is_empty.ensures.0 refl)
    (λ e. false≢true (c.if-is_empty.ensures ∙ ap (λ (xs : List ℕ). length xs == 0) e))
    (rw c.parse_line-request.ensures at c.in_ok-serve_request.ensures.served)
