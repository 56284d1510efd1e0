-- Counters of work, and the number of cached answers.
use Rattle.std.specs.Prelude.{◌≡◌, ℕ, ◌+◌, ◌-◌, ◌^◌, ◌≤◌, min, length}
use Rattle.std.specs.Prelude.{Option, None, Some, Result, Err}
use Rattle.addr_table.specs.Steps.{bits}
use Rattle.addr_table.specs.Module.{segments_in}
use Rattle.module_map.specs.World.{World, Loaded}
use Rattle.module_map.specs.Answers.{holder}
use Rattle.module_map.specs.declared.faults.Extent.{Extent}
use Rattle.module_map.specs.declared.faults.MapFault.{MapFault}
use Rattle.module_map.specs.declared.faults.MapFault.TheVariants.{NameTaken, Full}

-- the state of the modules, as contracts see it
pub record ModuleMap : Type 0 where
  pub world : World
  -- the number of cached answers, and the capacity of the cache
  pub cached : ℕ
  pub capacity : ℕ
  -- the comparisons of the last ask, and the bytes decoded since the start
  pub compares : ℕ
  pub decoded : ℕ

abbrev pub segments_of : Option Loaded → ℕ
segments_of None = 0
segments_of (Some m) = length (segments_in m.bytes)

abbrev pub least_of : Option Loaded → ℕ
least_of None = 0
least_of (Some m) = 2

-- the comparisons of an ask: two binary searches, and after each a comparison with the end of its
-- result
abbrev pub TakesCompares : World → ℕ → ℕ → Type 0
TakesCompares world address compares =
    (least_of (holder world address) ≤ compares)
    × (compares ≤ bits (length world.modules) + bits (segments_of (holder world address)) + 2)

-- an ask leaves the number of cached answers unchanged or adds one
abbrev pub CachesAnswer : ModuleMap → ModuleMap → Type 0
CachesAnswer old new =
    (new.capacity ≡ old.capacity) × (old.cached ≤ new.cached) × (new.cached ≤ old.cached + 1)

-- the decoded bytes after a load; the bytes of an object count unless the load is refused before
-- decoding
abbrev pub decoded_after : ℕ → ℕ → Result Extent MapFault → ℕ
decoded_after decoded count (Err NameTaken) = decoded
decoded_after decoded count (Err Full) = decoded
decoded_after decoded count result = min (decoded + count) (2 ^ 64 - 1)
