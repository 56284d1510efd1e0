-- Links skip the attributes of a shared list that are unused and have no bytes.
use Rattle.abbreviation_memo.specs.Lists.{IsListAt, list_at, list_from}
use Rattle.abbreviation_memo.specs.declared.list_start.ListStart.{ListStart}
use Rattle.dwarf_bytes.specs.declared.format.Format.{Format, TheVariants.Dwarf32}
use Rattle.dwarf_forms.specs.declared.attribute.AttributeSpecification.{AttributeSpecification}
use Rattle.dwarf_units.specs.{Attributes.is_used, Private.FixedSizes.fixed_len}
use Rattle.dwarf_units.specs.StoredAttributes.{stored_attributes_at}
use Rattle.std.specs.{BTreeMap.{BTreeMap, get}, Option.option_map_or, Ordering.nat_cmp}
use Rattle.std.specs.Prelude.{Bool, IfSome, List, Some, false, length, not, ℕ, ◌&&◌, ◌<◌, ◌==◌, ◌≡◌}
use Rattle.std.specs.Prelude.{◌≤◌}

-- Whether an attribute is unused and has no bytes. Offsets have bytes in both formats, so this does
-- not depend on the format.
abbrev pub is_empty_unused : AttributeSpecification → Bool
is_empty_unused s =
    not (is_used s.name) && option_map_or (λ len. len == 0) (fixed_len Dwarf32 s) false

-- For all bytes, the attribute of the link and the list after it store the same attributes as the
-- list at the offset. The list after it is valid, and its offset is greater.
pub record IsLink (section : List ℕ) (place : ℕ) (link : ListStart) : Type 0 where
  pub stored : (keep : Bool) (format : Format) (bytes : List ℕ) (at : ℕ) → at ≤ length bytes
      → stored_attributes_at keep format (list_from section link.attribute link.rest) bytes at
      ≡ stored_attributes_at keep format (list_at section place) bytes at
  pub after : IfSome link.attribute (λ _. (place < link.rest) × IsListAt section link.rest)

-- The map has links of the lists at its offsets.
abbrev pub AreLinks : List ℕ → BTreeMap ℕ ListStart → Type 0
AreLinks section links = (place : ℕ) (link : ListStart) → get nat_cmp links place ≡ Some link
    → IsLink section place link
