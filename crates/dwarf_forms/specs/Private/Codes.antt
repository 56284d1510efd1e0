-- Abbreviation codes and their index.
use Rattle.std.specs.Prelude.{◌≡◌, ◌≢◌, ◌⊎◌, ℕ, ◌+◌, List, Bool, false, Some, slice_get, ◌==◌}
use Rattle.std.specs.{Prelude.AllPairs, Option.option_map_or, Ordering.nat_cmp, BTreeMap.BTreeMap}
use Rattle.std.specs.BTreeMap.{get}

-- The codes are distinct. Each is its index + 1 or has its index in the map, and the map has no
-- other index.
pub record AreCodes (codes : List ℕ) (moved : BTreeMap ℕ ℕ) : Type 0 where
  pub once : AllPairs (λ a b. a ≢ b) codes
  pub found : (i code : ℕ) → slice_get codes i ≡ Some code → (code ≡ i + 1)
      ⊎ (get nat_cmp moved code ≡ Some i)
  pub placed : (code i : ℕ) → get nat_cmp moved code ≡ Some i → slice_get codes i ≡ Some code

-- whether a code is at an index
abbrev pub is_code_at : List ℕ → ℕ → ℕ → Bool
is_code_at codes place code = option_map_or (λ other. other == code) (slice_get codes place) false
