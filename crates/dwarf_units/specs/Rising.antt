-- Increasing offsets of entries, for the theorems about entries and units.
use Rattle.std.specs.Prelude.{ℕ, suc, ◌≤◌, List, [], ◌∷◌}
use Rattle.dwarf_units.specs.Entries.{Die}

-- The offsets of entries are strictly increasing from a first offset on, up to an end.
abbrev pub RiseWithin : ℕ → ℕ → List Die → Type 0
RiseWithin from end [] = from ≤ end
RiseWithin from end (die ∷ dies) = (from ≤ die.offset) × RiseWithin (suc die.offset) end dies
