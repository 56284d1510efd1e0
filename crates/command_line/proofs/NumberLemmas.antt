-- Digits, one after another.
use Rattle.std.proofs.Common.{ℕ, ◌+◌, ◌*◌, ◌<◌, ◌≤◌, ◌^◌, arith, lit<}
use Rattle.std.proofs.Math.Nat.{pow-le-pow_right}

-- one more hexadecimal digit fits
pub digit-fits : (value i n : ℕ) → value < 16 ^ i → i < n → n ≤ 16 → value * 16 + 15 < 2 ^ 64
digit-fits value i n below lt most =
    let bound : 16 ^ i ≤ 16 ^ 15 = pow-le-pow_right (lit< tt) {j = 15} (omega arith) in
    let small : value < 16 ^ 15 = omega (arith, bound, below) in
    omega (arith, small)
