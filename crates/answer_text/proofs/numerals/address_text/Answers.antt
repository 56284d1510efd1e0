use Rattle.std.proofs.Common.{◌≡◌, ℕ, suc, ◌+◌, ◌-◌, ◌<◌, ◌≤◌, ◌/◌, ◌%◌, List, [], ◌∷◌, ◌++◌}
use Rattle.std.proofs.Common.{length, take, drop, set, sym, ◌∙◌, ap}
use Rattle.std.proofs.Common.{append_assoc, arith}
use Rattle.std.specs.Prelude.{codes}
use Rattle.std.specs.Char.{digit_char}
use Rattle.std.proofs.lemmas.List.{drop-set, take-set-le, length-set, take-append-drop}
use Rattle.answer_text.specs.Numerals.{hex_digits, address_text}
use Rattle.answer_text.proofs.numerals.address_text.Goals as goal

-- one more digit before the digits that are already there
digit_before : (n at : ℕ) (text all : List ℕ) (digit : ℕ) → 2 < at → at ≤ length text
    → digit ≡ digit_char (n % 16)
    → hex_digits (at - 2) n ++ drop at text ≡ all
    → hex_digits (at - 1 - 2) (n / 16) ++ drop (at - 1) (set text (at - 1) digit) ≡ all
digit_before n at text all digit ge le is h =
    let there : at - 1 + 1 ≡ at = omega arith in
    let less : at - 2 ≡ suc (at - 1 - 2) = omega arith in
    ap (λ (z : List ℕ). hex_digits (at - 1 - 2) (n / 16) ++ z)
    (drop-set text (at - 1) digit (omega arith))
    ∙ ap (λ (z : ℕ). hex_digits (at - 1 - 2) (n / 16) ++ digit ∷ drop z text) there
    ∙ ap (λ (z : ℕ). hex_digits (at - 1 - 2) (n / 16) ++ z ∷ drop at text) is
    ∙ sym (append_assoc (hex_digits (at - 1 - 2) (n / 16)) (digit_char (n % 16) ∷ [])
    (drop at text))
    ∙ ap (λ (z : ℕ). hex_digits z n ++ drop at text) (sym less) ∙ h

all_digits : (address left at : ℕ) (text : List ℕ) → at ≡ 2 → take 2 text ≡ codes "0x"
    → hex_digits (at - 2) left ++ drop at text ≡ hex_digits 16 address → text ≡ address_text address
unfolding address_text
all_digits address left at text is prefix h =
    let rest : drop 2 text ≡ hex_digits 16 address =
    ap (λ (z : ℕ). hex_digits (z - 2) left ++ drop z text) (sym is) ∙ h in
    sym (take-append-drop 2 text) ∙ ap (λ (z : List ℕ). z ++ drop 2 text) prefix
    ∙ ap (λ (z : List ℕ). codes "0x" ++ z) rest

pub loop-at-preserved : goal.loop-at-preserved
loop-at-preserved c =
    let i = c.loop-at.invariant in
    record {
      from = omega (arith, c.loop-at-test.true);
      to = omega (arith, i.to);
      len = length-set _ _ _ ∙ i.len;
      prefix = take-set-le 2 _ _ _ (omega (arith, c.loop-at-test.true)) ∙ i.prefix;
      digits = digit_before _ _ _ _ _ c.loop-at-test.true (omega (arith, i.to, i.len))
          c.hex_digit.ensures i.digits;
    }

pub returns : goal.returns
returns c =
    let i = c.loop-at.invariant in
    let at_start : c.loop-at.at ≡ 2 = omega (arith, i.from, c.loop-at-test.false) in
    all_digits c.args.address c.loop-at.left c.loop-at.at c.loop-at.text at_start i.prefix i.digits
