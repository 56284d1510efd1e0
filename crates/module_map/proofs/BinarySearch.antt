-- The number of steps of a binary search.
use Rattle.std.proofs.Common.{◌≡◌, ℕ, zero, suc, ◌+◌, ◌^◌, ◌<◌, ◌≤◌, arith}
use Rattle.std.proofs.Math.Nat.{two-pow-succ}
use Rattle.addr_table.specs.Steps.{bits}
use Rattle.addr_table.proofs.Searching.StepLaws.{below-bits}

-- after some steps in an interval of length whole, length left remains
pub record Halved (whole left used : ℕ) : Type 0 where
  pub powers : (a : ℕ) → whole < 2 ^ a → (r : ℕ) × (used + r ≡ a) × (left < 2 ^ r)

halved-again : (left left' used a r : ℕ) → 0 < left → left' + left' ≤ left → used + r ≡ a
    → left < 2 ^ r
    → (s : ℕ) × (used + 1 + s ≡ a) × (left' < 2 ^ s)
halved-again left left' used a zero some half is fits = absurd (omega arith)
halved-again left left' used a (suc r) some half is fits = let twice = two-pow-succ r in
    (r, omega arith, omega (arith, twice))

pub halved-more : (whole left left' used : ℕ) → Halved whole left used → 0 < left
    → left' + left' ≤ left → Halved whole left' (used + 1)
halved-more whole left left' used h some half =
    record {
      powers = λ a lt. let p = h.powers a lt in
          halved-again left left' used a p.0 some half p.1 p.2;
    }

-- the number of steps is at most the number of binary digits of the length
pub halved-all : (whole left used : ℕ) → Halved whole left used → used ≤ bits whole
halved-all whole left used h = let p = h.powers (bits whole) (below-bits whole) in
    omega (arith, p.1)
