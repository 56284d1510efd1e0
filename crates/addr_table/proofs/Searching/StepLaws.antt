-- Sums of comparisons, and the bound of a number by its binary digits.
use Rattle.std.proofs.Common.{◌≡◌, ◌∙◌, ℕ, zero, suc, ◌+◌, ◌/◌, ◌^◌, ◌<◌, ◌≤◌, Bool, true, false}
use Rattle.std.proofs.Common.{eqb, refl, ap, add-one, add-zero}
use Rattle.std.proofs.Common.{add-suc, arith}
use Rattle.std.proofs.Math.Nat.{two-pow-succ}
use Rattle.std.proofs.lemmas.Bool.{eqb-true}
use Rattle.addr_table.specs.declared.steps.Steps.{Steps}
use Rattle.addr_table.specs.Steps.{bits, digits_within, counted, one_more}

digits-step : (fuel n : ℕ) (b : Bool) → eqb n 0 ≡ b → (n / 2) < 2 ^ digits_within fuel (n / 2)
    → n < 2 ^ digits_within (suc fuel) n
digits-step fuel n true e half = let none = eqb-true n 0 e in rw e (omega arith)
digits-step fuel n false e half = let twice = two-pow-succ (digits_within fuel (n / 2)) in
    rw e (omega (arith, half, twice))

half-fits : (fuel n : ℕ) → n ≤ suc fuel → n / 2 ≤ fuel
half-fits fuel n le = omega arith

digits-fit : (fuel n : ℕ) → n ≤ fuel → n < 2 ^ digits_within fuel n
digits-fit zero n le = omega arith
digits-fit (suc fuel) n le = digits-step fuel n (eqb n 0) refl
    (digits-fit fuel (n / 2) (half-fits fuel n le))

pub below-bits : (n : ℕ) → n < 2 ^ bits n
unfolding bits
below-bits n = digits-fit n n (omega arith)

-- ---- sums of comparisons

pub counted-one : (n : ℕ) (s t u : Steps) → t ≡ counted n s → u ≡ one_more t → u ≡ counted (n + 1) s
counted-one n s t u p q = rw add-one (q ∙ ap one_more p)

pub counted_all : (n m : ℕ) (s t u : Steps) → t ≡ counted n s → u ≡ counted m t
    → u ≡ counted (n + m) s
counted_all n zero s t u p q = rw add-zero (q ∙ p)
counted_all n (suc m) s t u p q = rw add-suc
    (q ∙ ap one_more (counted_all n m s t (counted m t) p refl))

pub counted-decoded : (n : ℕ) (s : Steps) → (counted n s).decoded ≡ s.decoded
counted-decoded zero s = refl
counted-decoded (suc n) s = counted-decoded n s
