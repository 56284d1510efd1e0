use Rattle.std.proofs.Common.{◌≤◌, ◌∙◌, length, arith, refl}
use Rattle.std.proofs.lemmas.Result.{err_from_is_err_and}
use Rattle.command_loop.proofs.RequestLemmas.{handled-none}
use Rattle.command_loop.proofs.AddressLemmas.{word-next, word-stops, words-all}
use Rattle.command_loop.proofs.words.serve_words.Goals as goal

pub loop-word-init : goal.loop-word-init
loop-word-init g c = (handled-none _ _ _ refl refl refl, refl)

pub loop-word-preserved : goal.loop-word-preserved
loop-word-preserved g c = (
  word-next _ _ _ _ _ _ c.loop-word-test.true c.loop-word.invariant.0
      c.in_ok-serve_request.ensures.served,
  c.in_ok-serve_request.ensures.failures ∙ c.loop-word.invariant.1,
)

pub returns-in_err-serve_request-clause-halts : goal.returns-in_err-serve_request-clause-halts
returns-in_err-serve_request-clause-halts g c =
    let p = err_from_is_err_and c.from_residual.result c.from_residual.ensures.1 in
    rw (p.1) (word-stops _ _ _ _ _ _ c.loop-word-test.true c.loop-word.invariant.0
    c.in_err-serve_request.ensures.served)

pub returns-clause-handled : goal.returns-clause-handled
returns-clause-handled g c =
    let past : length c.args.words.now ≤ c.loop-word.word-index =
    omega (arith, c.loop-word-test.false) in
    words-all _ _ _ _ _ past c.loop-word.invariant.0
