use Rattle.std.proofs.lemmas.List.{take_rest}
use Rattle.std.proofs.Common.{ap, ◌∙◌, length-drop, length, arith}
use Rattle.std.proofs.lemmas.Result.{err_from_is_err_and}
use Rattle.answer_text.proofs.WriteLemmas.{stops-at, goes_on, goes-nowhere, took-some}
use Rattle.io_streams.specs.declared.streams.DeviceFault.{DeviceFault}
use Rattle.answer_text.proofs.pending.write_all.Goals as goal

pub returns-in_err-count-clause-bytes : goal.returns-in_err-count-clause-bytes
returns-in_err-count-clause-bytes g c =
    let p = err_from_is_err_and c.from_residual.result c.from_residual.ensures.1 in
    rw (p.1) (stops-at _ _ _ _ _ c.loop-at.invariant.1 c.in_err-count.ensures.bytes)

pub returns-then-count-eq0-clause-bytes : goal.returns-then-count-eq0-clause-bytes
returns-then-count-eq0-clause-bytes g c =
    goes-nowhere _ _ _ _ _ _ _ c.if-count-eq0.true c.loop-at.invariant.1 c.in_ok-count.ensures.bytes

pub loop-at-preserved : goal.loop-at-preserved
loop-at-preserved g c = (
  omega (
    arith,
    ap length (take_rest c.args.text.now c.loop-at.at),
    length-drop c.loop-at.at c.args.text.now,
    c.in_ok-count.ensures.bound,
  ),
  goes_on _ _ _ _ _ _ c.loop-at.invariant.1 c.in_ok-count.ensures.bytes,
  c.in_ok-count.ensures.failures ∙ took-some DeviceFault _ _ _ c.if-count-eq0.false
      ∙ c.loop-at.invariant.2,
)
