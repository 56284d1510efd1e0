-- The ends of strings (DWARF 5, 7.5.5), for the contracts of the index that finds them.
use Rattle.std.specs.Prelude.{◌≡◌, ℕ, zero, suc, ◌+◌, ◌*◌, ◌≤◌, List, [], ◌∷◌, length, drop, Option}
use Rattle.std.specs.Prelude.{option_map, position, ◌==◌}

-- the offset of the first NUL of a section at or after an offset
abbrev pub nul_from : List ℕ → ℕ → Option ℕ
nul_from section at = option_map (λ n. at + n) (position (λ byte. byte == 0) (drop at section))

-- the size of a block in bytes
abbrev pub block_len : ℕ
block_len = 4096

-- for count blocks, the first NUL at or after the start of each
abbrev pub nuls_from : List ℕ → ℕ → ℕ → List (Option ℕ)
nuls_from section block zero = []
nuls_from section block (suc count) =
    nul_from section (block_len * block) ∷ nuls_from section (block + 1) count

-- the same for all blocks of a section
pub record AreNuls (section : List ℕ) (nuls : List (Option ℕ)) : Type 0 where
  pub count : ℕ
  pub nuls_are : nuls ≡ nuls_from section 0 count
  pub all : length section ≤ block_len * count
