-- Modules in ascending order of address.
use Rattle.std.specs.Prelude.{◌≡◌, ◌≢◌, ℕ, ◌+◌, ◌-◌, ◌<◌, ◌≤◌, ◌⊎◌, List, length, nat_le}
use Rattle.std.specs.Prelude.{slice_index_or, insert, remove, if◌then◌else◌}
use Rattle.module_map.specs.World.{start_of, end_of, moved_to}
use Rattle.module_map.specs.Private.Serials.{NumberedModule}

-- each module is nonempty and ends before the next one starts; no two have the same name
pub record AreRising (sorted : List NumberedModule) : Type 0 where
  pub apart : (i j : ℕ) (d : NumberedModule) → i < j → j < length sorted →
      end_of (slice_index_or sorted i d).loaded ≤ start_of (slice_index_or sorted j d).loaded
  pub sound : (i : ℕ) (d : NumberedModule) → i < length sorted →
      start_of (slice_index_or sorted i d).loaded < end_of (slice_index_or sorted i d).loaded
  pub names : (i j : ℕ) (d : NumberedModule) → i < j → j < length sorted →
      (slice_index_or sorted i d).loaded.name ≢ (slice_index_or sorted j d).loaded.name

-- another index
abbrev pub IsOther : ℕ → ℕ → Type 0
IsOther own k = (k < own) ⊎ (own < k)

-- the module at index own is the only one with a name
pub record IsOnly (sorted : List NumberedModule) (name : List ℕ) (own : ℕ) : Type 0 where
  pub within : own < length sorted
  pub here : (d : NumberedModule) → (slice_index_or sorted own d).loaded.name ≡ name
  pub others : (k : ℕ) (d : NumberedModule) → k < length sorted → IsOther own k →
      (slice_index_or sorted k d).loaded.name ≢ name

-- module n - 1 starts at or before the address, and all modules from index n on start after it
pub record CountsStarted (sorted : List NumberedModule) (address n : ℕ) : Type 0 where
  pub within : n ≤ length sorted
  pub before : (k : ℕ) (d : NumberedModule) → k + 1 ≡ n →
      start_of (slice_index_or sorted k d).loaded ≤ address
  pub after : (k : ℕ) (d : NumberedModule) → n ≤ k → k < length sorted →
      address < start_of (slice_index_or sorted k d).loaded

-- Except for the module at index own, the modules before index at start before the low end and end
-- at or before it. The others start at or after the high end.
pub record IsClear (sorted : List NumberedModule) (own low high at : ℕ) : Type 0 where
  pub within : at ≤ length sorted
  pub under : (k : ℕ) (d : NumberedModule) → k < at → IsOther own k →
      start_of (slice_index_or sorted k d).loaded < low
  pub before : (k : ℕ) (d : NumberedModule) → k < at → IsOther own k →
      end_of (slice_index_or sorted k d).loaded ≤ low
  pub after : (k : ℕ) (d : NumberedModule) → at ≤ k → k < length sorted → IsOther own k →
      high ≤ start_of (slice_index_or sorted k d).loaded

-- Except for the module at index own, the module at this index is the lowest one with an address
-- between the two ends.
pub record Overlaps (sorted : List NumberedModule) (own low high at : ℕ) : Type 0 where
  pub within : at < length sorted
  pub other : IsOther own at
  pub begins : (d : NumberedModule) → start_of (slice_index_or sorted at d).loaded < high
  pub ends : (d : NumberedModule) → low < end_of (slice_index_or sorted at d).loaded
  pub before : (k : ℕ) (d : NumberedModule) → k < at → IsOther own k →
      end_of (slice_index_or sorted k d).loaded ≤ low

-- the same module at another base
abbrev pub rebased : ℕ → NumberedModule → NumberedModule
rebased base h = record h { loaded = moved_to base h.loaded }

-- the module at index own is removed, and a module is inserted where index at was before
abbrev pub relocated : List NumberedModule → ℕ → ℕ → NumberedModule → List NumberedModule
relocated sorted own at h = insert (remove sorted own) (if nat_le at own then at else at - 1) h

-- the first index at or after from that is not own
pub record IsNext (own len from next : ℕ) : Type 0 where
  pub above : from ≤ next
  pub least : (k : ℕ) → from ≤ k → k < next → k ≡ own
  pub other : next < len → IsOther own next
