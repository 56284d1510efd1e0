use Rattle.std.proofs.Common.{ℕ, ◌≤◌, arith, length-take}
use Rattle.std.proofs.lemmas.List.Elements.{All-more}
use Rattle.dwarf_bytes.proofs.Numbers.LebPrefixes.{grown, whole, low}
use Rattle.dwarf_bytes.proofs.leb.leb_prefix.Goals as goal

pub overflow_add-value : goal.overflow_add-value
overflow_add-value c =
    let size = length-take c.min.result c.args.bytes.now in
    let g = grown _ _ _ _ c.loop-i-test.true (omega
    (arith, size)) c.loop-i.invariant.value_is c.loop-i.invariant.small c.from.ensures in
    omega (arith, g.fits)

pub returns-then-byte-lt128 : goal.returns-then-byte-lt128
returns-then-byte-lt128 c =
    let size = length-take c.min.result c.args.bytes.now in
    whole _ _ _ _ (omega (arith, size)) (omega arith) (omega arith)
    (grown _ _ _ _ c.loop-i-test.true (omega (
      arith,
      size,
    )) c.loop-i.invariant.value_is c.loop-i.invariant.small c.from.ensures) c.loop-i.invariant.go_on
    c.if-byte-lt128.true

pub loop-i-preserved : goal.loop-i-preserved
loop-i-preserved c =
    let size = length-take c.min.result c.args.bytes.now in
    let g = grown _ _ _ _ c.loop-i-test.true (omega
    (arith, size)) c.loop-i.invariant.value_is c.loop-i.invariant.small c.from.ensures in
    record {
      value_is = g.value_is;
      small = g.small;
      go_on = All-more (λ (byte : ℕ). 128 ≤ byte) _ _ 0 c.loop-i-test.true c.loop-i.invariant.go_on
          c.if-byte-lt128.false;
    }

pub returns : goal.returns
returns c = low _ _ _ _
    (omega arith) c.if-bytes-lt-LOW_BYTES.false c.loop-i-test.false c.loop-i.auto.i-end
    c.loop-i.invariant.value_is c.loop-i.invariant.small c.loop-i.invariant.go_on
