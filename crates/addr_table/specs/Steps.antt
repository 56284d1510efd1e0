-- Counts of comparisons, and the number of binary digits of a number.
use Rattle.std.specs.Prelude.{ℕ, zero, suc, ◌+◌, ◌-◌, ◌/◌, ◌^◌, ◌==◌, min, if◌then◌else◌}
use Rattle.addr_table.specs.declared.steps.Steps.{Steps}

-- one more comparison; the count saturates at 2^64-1
abbrev pub one_more : Steps → Steps
one_more steps = record steps { compares = min (steps.compares + 1) (2 ^ 64 - 1) }

-- n more comparisons
abbrev pub counted : ℕ → Steps → Steps
counted zero steps = steps
counted (suc n) steps = one_more (counted n steps)

-- the number of binary digits of a number, at most count
abbrev pub digits_within : ℕ → ℕ → ℕ
digits_within zero n = 0
digits_within (suc count) n = if n == 0 then 0 else suc (digits_within count (n / 2))

-- the number of binary digits of a number; 0 has none
unfoldable pub bits : ℕ → ℕ
bits n = digits_within n n
