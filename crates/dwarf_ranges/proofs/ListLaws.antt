-- The loop over a range list.
use Rattle.dwarf_bytes.proofs.{Items.ItemLaws.items_from-step, Items.Turns.{SoFar, so-far-end}}
use Rattle.dwarf_bytes.proofs.{Items.Turns.{so-far-fault, so-far-item}, Numbers.Advance.MovesOn}
use Rattle.dwarf_bytes.specs.{Items.{Advances, End, Item, Next}, Position.Position}
use Rattle.dwarf_bytes.specs.declared.fault.Cause.{Cause}
use Rattle.dwarf_ranges.specs.Ranges.{AddsRanges, base_after, list_at, list_entry_at, list_entry_of}
use Rattle.dwarf_ranges.specs.{Ranges.{next_base, ranges_in}, declared.bases.Bases.Bases}
use Rattle.dwarf_ranges.specs.declared.range.Range.{Range}
use Rattle.dwarf_ranges.specs.declared.range_entries.RangeListEntry.{RangeListEntry}
use Rattle.dwarf_walk.specs.Sections.{Sections}
use Rattle.std.proofs.Common.{Err, List, Ok, Option, Result, [], ap, append-nil, append_assoc}
use Rattle.std.proofs.Common.{arith, flat_map, length, length-append, refl, sym, ℕ, ◌++◌, ◌+◌, ◌<◌}
use Rattle.std.proofs.{Common.{◌∙◌, ◌∷◌, ◌≡◌}, lemmas.List.Concat.flat_map-append}
use Rattle.dwarf_ranges.proofs.{BaseLaws.fixed-outside, EntryLaws.list_entry_at-advances}
use Rattle.dwarf_bytes.specs.declared.fault.Cause.TheVariants as causes

base_after-push : (base : Option ℕ) (before : List RangeListEntry) (x : RangeListEntry)
    → base_after base (before ++ x ∷ []) ≡ next_base x (base_after base before)
base_after-push base [] x = refl
base_after-push base (first ∷ before) x = base_after-push (next_base first base) before x

-- The loop invariant: the count and the base of the loop match the entries before the cursor, and
-- the ranges of these entries are appended to the earlier ones.
pub record ListSoFar (budget : ℕ) (sections : Sections) (bases : Bases) (first : ℕ)
    (known : List Range) (at : Position) (count : ℕ) (base : Option ℕ) (ranges : List Range)
    : Type 0 where
  pub bytes_are : at.bytes ≡ sections.debug_rnglists
  pub before : List RangeListEntry
  pub counted : count ≡ length before
  pub base_is : base ≡ base_after bases.low_pc before
  pub ranges_are : ranges ≡ known ++ flat_map ranges_in before
  pub read : SoFar (length sections.debug_rnglists)
      (list_entry_at budget sections bases sections.debug_rnglists) first before at.place

module _ {budget : ℕ} {sections : Sections} {bases : Bases} {first : ℕ} {known : List Range}
    {at : Position} {count : ℕ} {base : Option ℕ} {ranges : List Range}
    (so_far : ListSoFar budget sections bases first known at count base ranges) where
  -- The entry at the cursor, given the entries before it.
  here : (read : Result (Next RangeListEntry) Cause)
      → list_entry_of budget sections bases count base at.bytes at.place ≡ read
      → list_entry_at budget sections bases sections.debug_rnglists so_far.before at.place ≡ read
  here read is = cc (is, so_far.counted, so_far.base_is, so_far.bytes_are)

  advances : Advances (length sections.debug_rnglists)
      (list_entry_at budget sections bases sections.debug_rnglists)
  advances = list_entry_at-advances budget sections bases sections.debug_rnglists

  pub list-next : (new : Position) (x : RangeListEntry)
      → list_entry_of budget sections bases count base at.bytes at.place ≡ Ok (Item x new.place)
      → new.bytes ≡ at.bytes
      → MovesOn at.bytes at.place new.place
      × ListSoFar budget sections bases first known new (count + 1) (next_base x base)
      (ranges ++ ranges_in x)
  list-next new x is same =
      let read = here (Ok (Item x new.place)) is in (
        rw so_far.bytes_are (advances so_far.before at.place x new.place read),
        record {
          bytes_are = same ∙ so_far.bytes_are;
          before = so_far.before ++ x ∷ [];
          counted = omega (arith, so_far.counted, length-append so_far.before (x ∷ []));
          base_is = ap (next_base x) so_far.base_is
              ∙ sym (base_after-push bases.low_pc so_far.before x);
          ranges_are = rw so_far.ranges_are (simp (flat_map-append, append-nil, append_assoc));
          read = so-far-item _ _ advances first so_far.before at.place x new.place so_far.read
              read;
        },
      )

  pub list-end : (after : ℕ)
      → list_entry_of budget sections bases count base at.bytes at.place ≡ Ok (End after)
      → AddsRanges (Ok count) known ranges (list_at budget sections bases first)
  unfolding list_at
  list-end after is = grind (arith, so-far-end, advances, here)

  pub list-fault : (cause : Cause)
      → list_entry_of budget sections bases count base at.bytes at.place ≡ Err cause
      → list_at budget sections bases first ≡ Err cause
  unfolding list_at
  list-fault cause is = rw (so-far-fault _ _ advances first so_far.before at.place cause
      so_far.read (here (Err cause) is)) refl

-- ---- a list outside the section

pub list_outside : (budget : ℕ) (sections : Sections) (bases : Bases) (place : ℕ)
    → length sections.debug_rnglists < place → list_at budget sections bases place
    ≡ Err causes.Short
unfolding list_at
list_outside budget sections bases place h =
    let lists = sections.debug_rnglists in
    let here : list_entry_at budget sections bases lists [] place ≡ Err causes.Short =
    rw (fixed-outside 1 lists place h) refl in
    rw (items_from-step _ _ (list_entry_at-advances budget sections bases lists) [] place, here)
    refl
