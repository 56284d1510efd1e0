-- Links of shared lists: attributes that are unused and have no bytes change nothing.
use Rattle.dwarf_units.proofs.Common
use Common.{◌≡◌, ℕ, ◌+◌, ◌≤◌, List, [], ◌∷◌, Bool, true, false, length, refl, sym, ◌∙◌, arith}
use Common.{Some, Result, Ok, Cause, Format, ◌>>=◌, form_of, Item, AttributeSpecification, IsListAt}
use Common.{list_at, Attribute, ValueLayout, accepts, is_used, attributes_at, fixed_len, value_len}
use Common.{IsLink, attribute_at, stored_attributes_at}
use Rattle.dwarf_bytes.specs.declared.format.Format.TheVariants.{Dwarf32, Dwarf64}
use Rattle.dwarf_forms.specs.Tables.{attribute_at as specification_at}
use Rattle.abbreviation_memo.specs.{declared.list_start.ListStart.ListStart, Lists.first_of}
use Rattle.abbreviation_memo.proofs.ListLaws.{starts-at}
use Rattle.dwarf_units.specs.{Private.FixedSizes.constant_len, Private.Links.is_empty_unused}
use Rattle.dwarf_units.proofs.FixedValues.{IsAt, after-none, by-form, fixed-at, with_number}
use Rattle.dwarf_units.proofs.StoredReads.{stored_all, with_first}

-- ---- attributes that are skipped

no-width : (name : ℕ) (layout : ValueLayout) → value_len Dwarf32 name layout ≡ Some 0
    → value_len Dwarf64 name layout ≡ Some 0
no-width name layout is = grind (arith, is)

-- An attribute of no bytes in one format has none in the other.
no-bytes : (s : AttributeSpecification) (format : Format) → fixed_len Dwarf32 s ≡ Some 0
    → fixed_len format s ≡ Some 0
unfolding fixed_len
no-bytes s Dwarf32 is = is
no-bytes s Dwarf64 is =
    by-form (value_len Dwarf32 s.name) (constant_len s) 0 (accepts s.name s.form) (form_of s.form)
    is (λ layout fine found len. rw (fine, found, fixed_len) (no-width s.name layout len))
    (λ fine found len. rw (fine, found, fixed_len) len)

-- Such an attribute ends where it starts.
empty-at : (format : Format) (s : AttributeSpecification) (bytes : List ℕ) (at : ℕ)
    (is : IsAt format s bytes at 0 0) → at ≤ length bytes
    → attribute_at format s bytes at ≡ with_number s is.number at
empty-at format s bytes at is le =
    let first : at + 0 ≡ at = omega arith in
    rw first at is.read ∙ after-none bytes at (with_number s is.number) le

-- It is not stored, and no byte is read for it.
empty-read : (keep : Bool) (format : Format) (s : AttributeSpecification)
    (ss : List AttributeSpecification) (bytes : List ℕ) (at : ℕ) → is_empty_unused s ≡ true
    → at ≤ length bytes → stored_attributes_at keep format (s ∷ ss) bytes at
    ≡ stored_attributes_at keep format ss bytes at
unfolding attributes_at
empty-read keep format s ss bytes at is le =
    let empty : (is_used s.name ≡ false) × (fixed_len Dwarf32 s ≡ Some 0) = grind arith in
    let here = fixed-at format s bytes at 0 0 (no-bytes s format empty.1) (omega (arith, le)) in
    rw (empty-at format s bytes at here le)
    (unstored empty.0 (record { form = s.form; number = here.number })
    (attributes_at format ss bytes at))
  where
    unstored : is_used s.name ≡ false → (value : _) (r : Result (List Attribute × ℕ) Cause)
        → ((r >>= with_first (record { name = s.name; value = value })) >>= stored_all keep)
        ≡ (r >>= stored_all keep)
    unstored unused value r = grind (arith, unused)

-- ---- links

-- The start of a list is a link.
pub link-start : (section : List ℕ) (place : ℕ) (start : ListStart) → IsListAt section place
    → specification_at section [] place ≡ Ok (first_of start.attribute start.rest)
    → IsLink section place start
link-start section place start is read =
    let starts = starts-at section place start.attribute start.rest is read in record {
      stored = λ keep format bytes at le. rw starts.list refl;
      after = starts.after;
    }

-- If the first attribute is skipped, the link of the list after it is a link.
pub link-next : (section : List ℕ) (place rest : ℕ) (s : AttributeSpecification)
    (link : ListStart) → IsListAt section place → specification_at section [] place
    ≡ Ok (Item s rest) → is_empty_unused s ≡ true → IsLink section rest link
    → IsLink section place link
link-next section place rest s link is read empty next =
    let starts = starts-at section place (Some s) rest is read in record {
      stored = λ keep format bytes at le. next.stored keep format bytes at le
          ∙ rw starts.list
          (sym (empty-read keep format s (list_at section rest) bytes at empty le));
      after = grind (arith, next.after, starts.after);
    }
