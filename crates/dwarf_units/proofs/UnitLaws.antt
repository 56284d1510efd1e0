-- Each unit takes at least one byte, and none extends beyond the end of the section.
use Rattle.dwarf_units.proofs.Common
use Common.{◌≡◌, ℕ, ◌<◌, ◌≤◌, List, length, arith, length-take, Ok, Format, Advances, UnitHeader}
use Common.{header_at}
use Rattle.dwarf_bytes.proofs.{Numbers.LengthLaws.initial_length_at-moves}
use Rattle.dwarf_units.specs.Units.{header_in, unit_at}

-- A header contains the start of its unit, and the unit ends where the bytes end.
pub header_in-places : (start : ℕ) (format : Format) (unit : List ℕ) (at : ℕ) (header : UnitHeader)
    → header_in start format unit at ≡ Ok header
    → (header.start ≡ start) × (header.end ≡ length unit)
header_in-places start format unit at header h = grind arith

pub unit_at-moves : (info : List ℕ) (at : ℕ) (header : UnitHeader) → unit_at info at ≡ Ok header
    → (at < header.end) × (header.end ≤ length info)
unfolding unit_at
unit_at-moves info at header h =
    grind (arith, initial_length_at-moves info at, header_in-places, length-take)

pub header_at-advances : (info : List ℕ) → Advances (length info) (header_at info)
header_at-advances info before at x after h = grind (arith, unit_at-moves info at)

-- What the end of a loop over units needs.
pub ruleset unit_moves = (unit_at-moves)
