-- A bitmap of offsets in a section: one bit for each byte, in words of 64 bits.
use Rattle.std.specs.Prelude.{◌≡◌, ℕ, ◌/◌, ◌%◌, List, map, Bool, ◌==◌, ◌||◌, slice_index}
use Rattle.std.specs.{List.list_any, Int.bit_at}
use Rattle.dwarf_walk.specs.declared.entry_bitmap.EntryBitmap.{EntryBitmap}
use Rattle.dwarf_units.specs.Entries.{Die}

-- Whether the bit of an offset is set. Offsets beyond the last word have no bit.
abbrev pub has_entry : EntryBitmap → ℕ → Bool
has_entry bitmap place = bit_at (slice_index bitmap.words.items (place / 64)) (place % 64) == 1

-- The bitmap contains the old bits and the bits of these offsets.
abbrev pub AddsOffsets : EntryBitmap → EntryBitmap → List ℕ → Type 0
AddsOffsets old new places =
    (at : ℕ) → has_entry new at ≡ (has_entry old at || list_any (λ place. place == at) places)

-- The offsets of entries.
abbrev pub offsets_of : List Die → List ℕ
offsets_of dies = map (λ die. die.offset) dies
