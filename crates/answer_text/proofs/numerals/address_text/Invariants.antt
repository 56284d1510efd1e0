use Rattle.std.proofs.Common.{◌≡◌, ◌≤◌, ◌-◌, ◌++◌, length, take, drop}
use Rattle.std.specs.Prelude.{codes}
use Rattle.answer_text.specs.Numerals.{hex_digits}
use Rattle.answer_text.proofs.numerals.address_text.Given as goal

abbrev pub invariant-loop-at : goal.invariant-loop-at
invariant-loop-at l = record {
  from : 2 ≤ l.at;
  to : l.at ≤ 18;
  len : length l.text ≡ 18;
  prefix : take 2 l.text ≡ codes "0x";
  digits : hex_digits (l.at - 2) l.left ++ drop l.at l.text ≡ hex_digits 16 l.address;
}

abbrev pub decreases-loop-at : goal.decreases-loop-at
decreases-loop-at l = l.at
