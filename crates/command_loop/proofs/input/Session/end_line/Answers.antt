use Rattle.std.proofs.Common.{refl}
use Rattle.std.proofs.lemmas.Bool.{false≢true}
use Rattle.std.proofs.lemmas.Result.{err_from_is_err_and}
use Rattle.command_loop.proofs.ReadLemmas.{continues-empty, continues-line, breaks-line}
use Rattle.command_loop.proofs.input.Session.end_line.Goals as goal

pub returns-then-is_empty-clause-goes_on : goal.returns-then-is_empty-clause-goes_on
returns-then-is_empty-clause-goes_on g c = continues-empty _ _ _ (c.if-is_empty.ensures.0 refl)

pub returns-in_err-serve_request-clause-breaks : goal.returns-in_err-serve_request-clause-breaks
returns-in_err-serve_request-clause-breaks g c =
    let p =
    err_from_is_err_and c.from_residual.result c.from_residual.ensures.1 in rw (p.1)
    (breaks-line _ _ _ _ (λ e. false≢true (c.if-is_empty.ensures.1 e))
    (rw (c.parse_buffered-request.ensures, c.text.ensures)
    at c.in_err-serve_request.ensures.served))

pub returns-clause-goes_on : goal.returns-clause-goes_on
returns-clause-goes_on g c =
    rw c.clear.ensures (continues-line _ _ _ _ (λ e. false≢true (c.if-is_empty.ensures.1 e))
    (rw (c.parse_buffered-request.ensures, c.text.ensures) at c.in_ok-serve_request.ensures.served))
