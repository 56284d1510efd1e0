-- The answer for an address: the one module that contains it answers for the address minus its
-- base.
use Rattle.std.specs.Prelude.{ℕ, ◌-◌, List, [], Option, None, Some, find, position}
use Rattle.std.specs.Prelude.{slice_get, option_map}
use Rattle.std.specs.Option.{option_and_then}
use Rattle.addr_table.specs.Frames.{Frame}
use Rattle.addr_table.specs.Module.{place_in, scan}
use Rattle.module_map.specs.World.{World, Loaded, holds}
use Rattle.module_map.specs.declared.asked.Asked.{Asked}
use Rattle.module_map.specs.declared.asked.Found.{Found}

-- an answer: an address and its frames, innermost first
pub record Answered : Type 0 where
  pub address : ℕ
  pub frames : List Frame

-- the module that contains an address
abbrev pub holder : World → ℕ → Option Loaded
holder world address = find (holds address) world.modules

abbrev pub frames_of : Option Loaded → ℕ → List Frame
frames_of None address = []
frames_of (Some m) address = scan m.bytes (address - m.base)

-- the frames of an address, innermost first
unfoldable pub frames_at : World → ℕ → List Frame
frames_at world address = frames_of (holder world address) address

-- the result of a lookup in the module at an index of the list
abbrev pub found_at : World → ℕ → ℕ → Option Found
found_at world address place =
    option_map (λ (m : Loaded). record { at = place; place = place_in m.bytes (address - m.base) })
    (slice_get world.modules place)

-- the result of an ask
unfoldable pub asked : World → ℕ → Asked
asked world address =
    let found = option_and_then (found_at world address) (position (holds address) world.modules) in
    record { address = address; found = found }
