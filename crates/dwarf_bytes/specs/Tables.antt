-- The table headers that precede the bases of a unit (DWARF 5, 7.26 to 7.28).
use Rattle.std.specs.Prelude.{ℕ, ◌+◌, ◌*◌, ◌-◌, ◌/◌, Bool, true, false, not, ◌&&◌, ◌||◌, ◌==◌}
use Rattle.std.specs.Prelude.{nat_lt, List, [], ◌∷◌, length, Result, Ok, Err}
use Rattle.std.specs.Option.{option_map_or}
use Rattle.dwarf_bytes.specs.declared.fault.Cause.{Cause}
use Rattle.dwarf_bytes.specs.declared.fault.Cause.TheVariants as causes
use Rattle.dwarf_bytes.specs.declared.tables.TableKind.{TableKind}
use Rattle.dwarf_bytes.specs.declared.tables.TableKind.TheVariants.{StrOffsets, Addr, RngLists}
use Rattle.dwarf_bytes.specs.declared.tables.TableHead.{TableHead}
use Rattle.dwarf_bytes.specs.declared.format.Format.{Format}
use Rattle.dwarf_bytes.specs.declared.format.Format.TheVariants.{Dwarf32, Dwarf64}
use Rattle.dwarf_bytes.specs.Numbers.{field, length_len, offset_len}
use Rattle.dwarf_bytes.specs.Faults.{first_failure}

-- the size of the header in bytes; the base follows the header
abbrev pub head_len : TableKind → Format → ℕ
head_len StrOffsets format = length_len format + 4
head_len Addr format = length_len format + 4
head_len RngLists format = length_len format + 8

-- whether the header has an address size and a segment selector size
abbrev pub has_sizes : TableKind → Bool
has_sizes StrOffsets = false
has_sizes Addr = true
has_sizes RngLists = true

-- the unit length at an offset, and whether it is a valid length of the format (7.4)
abbrev pub unit_length : Format → List ℕ → ℕ → ℕ
unit_length Dwarf32 section start = field 4 section start
unit_length Dwarf64 section start = field 8 section (start + 4)

abbrev pub is_length : Format → List ℕ → ℕ → Bool
is_length Dwarf32 section start = nat_lt (field 4 section start) 0xfffffff0
is_length Dwarf64 section start = field 4 section start == 0xffffffff

-- whether a length of the 64-bit format starts there and is truncated
abbrev pub is_truncated : Format → List ℕ → ℕ → Bool
is_truncated Dwarf32 section start =
    (field 4 section start == 0xffffffff) && nat_lt (length section) (start + 12)
is_truncated Dwarf64 section start = false

-- the offsets of the header and of its version, and the end of the table
abbrev pub head_start : TableKind → Format → ℕ → ℕ
head_start kind format base = base - head_len kind format

abbrev pub version_place : TableKind → Format → ℕ → ℕ
version_place kind format base = head_start kind format base + length_len format

abbrev pub table_end : TableKind → Format → List ℕ → ℕ → ℕ
table_end kind format section base =
    version_place kind format base + unit_length format section (head_start kind format base)

-- the number of list offsets after the base (offset_entry_count)
abbrev pub offset_count : TableKind → Format → List ℕ → ℕ → ℕ
offset_count StrOffsets format section base = 0
offset_count Addr format section base = 0
offset_count RngLists format section base = field 4 section (version_place RngLists format base + 4)

-- the number of items of the table: offsets, or addresses of 8 bytes
abbrev pub item_count : TableKind → Format → List ℕ → ℕ → ℕ
item_count StrOffsets format section base =
    (table_end StrOffsets format section base - base) / offset_len format
item_count Addr format section base = (table_end Addr format section base - base) / 8
item_count RngLists format section base = offset_count RngLists format section base

abbrev pub head_tests : TableKind → Format → List ℕ → ℕ → List (Bool × Cause)
head_tests kind format section base =
    let version = version_place kind format base in
    let end = table_end kind format section base in
    (nat_lt base (head_len kind format) || nat_lt (length section) base, causes.Base)
    ∷ (is_truncated format section (head_start kind format base), causes.Short)
    ∷ (not (is_length format section (head_start kind format base)), causes.Length)
    ∷ (nat_lt (length section) end || nat_lt end base, causes.Short)
    ∷ (not (field 2 section version == 5), causes.Version)
    ∷ (has_sizes kind && not (field 1 section (version + 2) == 8), causes.AddressSize)
    ∷ (has_sizes kind && not (field 1 section (version + 3) == 0), causes.SegmentSize)
    ∷ (nat_lt end (base + offset_len format * offset_count kind format section base), causes.Short)
    ∷ []

-- the end and the item count of the table whose header precedes the base, or its cause of refusal
unfoldable pub table_before : TableKind → Format → List ℕ → ℕ → Result TableHead Cause
table_before kind format section base =
    option_map_or (λ cause. Err cause) (first_failure (head_tests kind format section base))
    (Ok (record {
      end = table_end kind format section base;
      items = item_count kind format section base;
    }))
