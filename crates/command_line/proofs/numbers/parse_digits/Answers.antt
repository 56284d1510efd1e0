use Rattle.std.proofs.Common.{arith}
use Rattle.command_line.proofs.NumberLemmas.{digit-fits}
use Rattle.command_line.proofs.numbers.parse_digits.Goals as goal

pub overflow_mul-value : goal.overflow_mul-value
overflow_mul-value c = omega (
  arith,
  digit-fits _ _ _ c.loop-byte.invariant.1 c.loop-byte-test.true
      (omega arith),
)

pub overflow_add-value : goal.overflow_add-value
overflow_add-value c =
    omega (
      arith,
      digit-fits _ _ _ c.loop-byte.invariant.1 c.loop-byte-test.true (omega arith),
      c.in_ok-digit.ensures.2,
    )
