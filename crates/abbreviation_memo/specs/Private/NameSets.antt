-- Sets of names as binary tries.
use Rattle.std.specs.Prelude.{◌≡◌, ℕ, ◌<◌, ◌≤◌, ◌==◌, List, [], ◌∷◌, length, reverse, get_or, Bool}
use Rattle.std.specs.{Prelude.{false, if◌then◌else◌, All, Some, slice_get}, Int.Digits.digits_of}
use Rattle.abbreviation_memo.specs.declared.name_sets.Branch.{Branch}

-- the node without names
abbrev pub no_names : Branch
no_names = record { ends = false; zero = 0; one = 0 }

-- the child of a node for a bit
abbrev pub side : Branch → ℕ → ℕ
side branch bit = if bit == 0 then branch.zero else branch.one

-- the root of a set; an index without a node is that of the empty set
abbrev pub branch_at : List Branch → ℕ → Branch
branch_at branches set = get_or branches set no_names

-- the node that some bits lead to
abbrev pub branch_along : List Branch → ℕ → List ℕ → Branch
branch_along branches set [] = branch_at branches set
branch_along branches set (bit ∷ bits) =
    branch_along branches (side (branch_at branches set) bit) bits

-- whether a set has a name: its bits, the lowest first, lead to a node where a name ends
unfoldable pub is_in : List Branch → ℕ → ℕ → Bool
is_in branches set name = (branch_along branches set (reverse (digits_of 2 name))).ends

-- the children of a node are among the first count nodes
abbrev pub IsWithin : ℕ → Branch → Type 0
IsWithin count branch = (branch.zero < count) × (branch.one < count)

-- The first node has no names, and the children of all nodes exist.
pub record AreSets (branches : List Branch) : Type 0 where
  pub empty : slice_get branches 0 ≡ Some no_names
  pub within : All (IsWithin (length branches)) branches

-- The existing sets do not change; nodes may be added.
pub record SetsStay (old new : List Branch) : Type 0 where
  pub longer : length old ≤ length new
  pub same : (set name : ℕ) → set < length old → is_in new set name ≡ is_in old set name
