-- The bitmap of entry offsets: the bits that a walk sets, and how they are looked up.
use Rattle.dwarf_walk.specs.{EntryBitmap.AddsOffsets, declared.entry_bitmap.EntryBitmap.EntryBitmap}
use Rattle.std.proofs.Common.{Bool, List, [], arith, bit_or, get_or, if◌then◌else◌, length, set}
use Rattle.std.proofs.Common.{ℕ, ◌%◌, ◌*◌, ◌++◌, ◌/◌, ◌<◌, ◌==◌, ◌^◌, ◌||◌, ◌∷◌, ◌≡◌}
use Rattle.std.proofs.{lemmas.Bool.Decides.nat_tests, lemmas.Grind.get_or-set_at}
use Rattle.std.proofs.{lemmas.List.get_or-set_other, lemmas.List.Folds.list_any-append}
use Rattle.std.proofs.lemmas.Nat.Bits.{bit_at_set_other, bit_at_set_same}
use Rattle.std.specs.{Int.{bit_at, from_bool, w64}, Int.Bits.or_zero_r, List.list_any}

-- ---- bits in words

-- Whether a bit is set.
abbrev pub has : List ℕ → ℕ → Bool
has words k = bit_at (get_or words (k / 64) 0) (k % 64) == 1

-- A bit that is set, or 0 that is added to its word.
pub adds_bit : (words : List ℕ) (k v j : ℕ) (is_entry : Bool) → k / 64 < length words
    → v ≡ bit_or (get_or words (k / 64) 0) (from_bool is_entry * 2 ^ (k % 64) % 2 ^ 64)
    → has (set words (k / 64) v) j
    ≡ (has words j || list_any (λ place. place == j) (if is_entry then k ∷ [] else []))
adds_bit words k v j is_entry lt is =
    let within : k % 64 < 64 = omega arith in
    let word = get_or words (k / 64) 0 in
    grind (
      arith,
      nat_tests,
      get_or-set_at words (k / 64) (j / 64) v 0,
      get_or-set_other words (k / 64) (j / 64) v 0,
      bit_at_set_same w64 word (k % 64) within,
      bit_at_set_other w64 word (k % 64) within (j % 64),
      or_zero_r word,
    )

-- ---- setting bits

pub adds-none : (bitmap : EntryBitmap) → AddsOffsets bitmap bitmap []
adds-none bitmap at = grind arith

pub adds-more : (old mid new : EntryBitmap) (xs ys : List ℕ) → AddsOffsets old mid xs
    → AddsOffsets mid new ys
    → AddsOffsets old new (xs ++ ys)
adds-more old mid new xs ys first second at =
    grind (arith, first at, second at, list_any-append (λ (place : ℕ). place == at) xs ys)
