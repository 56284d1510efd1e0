-- The operand counts of opcodes whose operands are skipped in a loop of their own.
use Rattle.std.specs.Prelude.{◌≡◌, ℕ, List, slice_index}

-- DW_LNS_set_column has one operand, and DW_LNS_negate_stmt none.
pub record HasUsualOperands (lengths : List ℕ) : Type 0 where
  pub column : slice_index lengths 4 ≡ 1
  pub statement : slice_index lengths 5 ≡ 0
