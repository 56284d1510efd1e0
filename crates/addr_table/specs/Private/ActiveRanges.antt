-- The active set, with one range of a row outside the bitmaps.
use Rattle.std.specs.Prelude.{◌≡◌, ℕ, ◌+◌, ◌<◌, ◌^◌, min, ◌-◌, List, length, Bool, false, Option}
use Rattle.std.specs.Prelude.{Some, None, IfSome, slice_index, slice_set}
use Rattle.addr_table.specs.Private.Active.{ActiveSet}
use Rattle.addr_table.specs.Private.Bits.{is_filled}

-- the counts of a set, with one more range if there is one outside the set
abbrev pub counts_with : Option ℕ → List ℕ → List ℕ
counts_with None counts = counts
counts_with (Some row) counts = slice_set counts row (slice_index counts row + 1)

-- the same for a set and its calls, with further calls
abbrev pub set_with : Option ℕ → ℕ → ActiveSet → ActiveSet
set_with row calls set = record {
  counts = counts_with row set.counts;
  calls = min (calls + set.calls) (2 ^ 64 - 1);
}

-- The range outside the set belongs to one of the first `rows` keys. If the set has no rows, its
-- counts of these keys are 0.
pub record AreRowsOf (rows : ℕ) (row : Option ℕ) (has_rows : Bool) (counts : List ℕ) : Type 0 where
  pub row_is : IfSome row (λ k. (k < rows) × (k < length counts))
  pub none : has_rows ≡ false → (k : ℕ) → k < rows → is_filled counts k ≡ false
