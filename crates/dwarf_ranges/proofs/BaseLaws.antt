-- Table items beyond the end of the section, and the current base of a range list.
use Rattle.dwarf_bytes.specs.Numbers.{block_at, fixed_at}
use Rattle.dwarf_bytes.specs.declared.fault.ReadFault.TheVariants.{Short}
use Rattle.dwarf_bytes.specs.declared.tables.TableKind.{TableKind}
use Rattle.dwarf_ranges.specs.{Bases.{item_at, item_len}, Ranges.{base_after, next_base}}
use Rattle.dwarf_ranges.specs.{declared.bases.Table.Table, declared.range.Range.Range}
use Rattle.dwarf_ranges.specs.declared.range_entries.RangeListEntry.{RangeListEntry}
use Rattle.dwarf_ranges.specs.declared.range_entries.RangeListEntry.TheVariants.{Base, Covers}
use Rattle.std.proofs.Common.{Err, List, Option, Some, [], arith, length, map, refl}
use Rattle.std.proofs.{Common.{ℕ, ◌*◌, ◌++◌, ◌+◌, ◌<◌, ◌∷◌, ◌≡◌}, lemmas.Bool.lt-ltb}
use Rattle.dwarf_bytes.specs.declared.fault.Cause.TheVariants as causes

pub fixed-outside : (n : ℕ) (bytes : List ℕ) (at : ℕ) → length bytes < at
    → fixed_at n bytes at ≡ Err Short
unfolding fixed_at block_at
fixed-outside n bytes at h = grind (arith, lt-ltb)

pub item_at-outside : (kind : TableKind) (section : List ℕ) (found : Option Table) (table : Table)
    (index place : ℕ) → found ≡ Some table → index < table.head.items
    → place ≡ table.base + item_len kind table.format * index → length section < place
    → Err causes.Short ≡ item_at kind section found index
item_at-outside kind section found table index place is within at past = grind (
  arith,
  fixed-outside 4 section place past,
  fixed-outside 8 section place past,
)

-- ---- the current base

pub base_stays : (base : Option ℕ) (ranges : List (Option Range))
    → base_after base (map (λ range. Covers range) ranges) ≡ base
base_stays base [] = refl
base_stays base (range ∷ ranges) = base_stays base ranges

pub base_of_last : (low_pc : Option ℕ) (before : List RangeListEntry) (base : ℕ)
    (ranges : List (Option Range)) → base_after low_pc
    (before ++ Base base ∷ map (λ range. Covers range) ranges) ≡ Some base
base_of_last low_pc [] base ranges = base_stays (Some base) ranges
base_of_last low_pc (first ∷ before) base ranges =
    base_of_last (next_base first low_pc) before base ranges
