-- The encoding of skipped operands.
use Rattle.std.proofs.Common.{◌≡◌, ◌≢◌, ℕ, zero, suc, ◌+◌, ◌-◌, true, false, ◌==◌, List, [], ◌∷◌}
use Rattle.std.proofs.Common.{◌++◌, length, Ok, ap, subst, arith}
use Rattle.std.proofs.lemmas.Bool.Decides.{nat_tests}
use Rattle.dwarf_bytes.specs.declared.fault.Cause.{Cause}
use Rattle.dwarf_bytes.specs.Items.{reading}
use Rattle.dwarf_bytes.specs.Numbers.{IsUleb, uleb_at}
use Rattle.dwarf_bytes.proofs.Numbers.Advance.{after-bind, reading-ok}
use Rattle.dwarf_bytes.proofs.Numbers.LebEncodings.{uleb-encoded, uleb-again}
use Rattle.dwarf_lines.specs.Instructions.{after_ulebs}
use Rattle.dwarf_lines.specs.Encodings.{AreUlebs, none, more}
use Rattle.dwarf_lines.proofs.Headers.BoundsLaws.{ok-is}
use Rattle.dwarf_lines.proofs.Lists.Spans.{Stretch, stretch-of, encoded-of, none-at, join, first_of}
use Rattle.dwarf_lines.proofs.Lists.Spans.{rest-of}

pub eqb-eq : (a b : ℕ) → (a == b) ≡ true → a ≡ b
eqb-eq a b h = grind (arith, nat_tests)

pub differs : (a b : ℕ) → (a == b) ≡ false → a ≢ b
differs a b h = grind (arith, nat_tests)

pub is-not : (a b : ℕ) → a ≢ b → (a == b) ≡ false
is-not a b h = grind (arith, nat_tests)

-- skipped operands
pub ulebs-encoded : (count : ℕ) (bytes : List ℕ) (at next : ℕ) → after_ulebs count bytes at
    ≡ Ok next
    → (operands : List ℕ) × AreUlebs count operands × Stretch bytes at operands next
unfolding after_ulebs
ulebs-encoded zero bytes at next h = (
  [],
  none,
  subst (λ (n : ℕ). Stretch bytes at [] n)
      (ok-is {E = Cause} at next h) (none-at bytes at),
)
ulebs-encoded (suc count) bytes at next h =
    after-bind (reading (uleb_at bytes at)) _ next h
    ((operands : List ℕ) × AreUlebs (suc count) operands × Stretch bytes at operands next)
    (λ operand operand_is h1.
    let one = uleb-encoded bytes at operand.0 operand.1
    (reading-ok (uleb_at bytes at) operand operand_is) in
    let others = ulebs-encoded count bytes operand.1 next h1 in (
      one.front ++ others.0,
      more one.front operand.0 one.encoded others.1,
      join bytes at one.front operand.1 others.0 next
          (stretch-of IsUleb bytes at operand.0 operand.1 one) others.2,
    ))

pub ulebs-again : (count : ℕ) (operands : List ℕ) (bytes : List ℕ) (at next : ℕ)
    → AreUlebs count operands → Stretch bytes at operands next
    → after_ulebs count bytes at ≡ Ok next
unfolding after_ulebs
ulebs-again zero [] bytes at next none h =
    ap (λ (n : ℕ). Ok n) (let last = h.next_is in omega arith)
ulebs-again zero (_ ∷ _) bytes at next impossible h = elim impossible [ ]
ulebs-again (suc count) all bytes at next (more {operands = operands} operand value is others) h =
    let mid = at + length operand in
    let here = uleb-again bytes at value mid
    (encoded-of IsUleb bytes at value mid operand (first_of bytes at operand operands next h) is)
    in
    rw here (ulebs-again count operands bytes mid next others
    (rest-of bytes at operand operands next h))
