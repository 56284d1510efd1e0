-- The nodes with a precomputed layout.
use Rattle.dwarf_bytes.{proofs.Numbers.LebEncodings.uleb-again, specs.Numbers.uleb_at}
use Rattle.dwarf_units.proofs.Common
use Common.{Attribute, AttributeSpecification, Bool, Cause, Declaration, Entry, Err, Format, IfSome}
use Common.{List, None, Null, Ok, Option, Result, Run, Some, Stretch, Table, Used, [], ap, arith}
use Common.{at-last, attributes_at, attributes_in, block_at, common_steps, cond, drop, drop_more}
use Common.{false, get_or_from_slice_get, got, inl, inr, le-ltb, length, length-append, ne_eqb}
use Common.{option_and_then_some, refl, runs_at, runs_of, same_Some, shape_at, slice_get}
use Common.{slice_get_within, stored_attributes, stored_attributes_at, take, true, used_among}
use Common.{used_attributes_at, ℕ, ◌*◌, ◌++◌, ◌+◌, ◌<◌, ◌==◌, ◌>>=◌, ◌∙◌, ◌∷◌, ◌≡◌, ◌≤◌, ◌⊎◌}
use Rattle.std.proofs.Common.{Bor, MatchOption, get_or, is_some, nat_lt, option_and_then, sym, ◌%◌}
use Rattle.dwarf_units.proofs.{RunReads.runs-read, SlotLaws.slots-used, StoredReads.stored_all}
use Rattle.dwarf_units.{proofs.StoredReads.used_all, specs.Entries.{declaration_of, depth_limit}}
use Rattle.dwarf_units.specs.{Entries.entry_at, Heads.used_entry_at, NodeShapes.IsFixedSizeNode}
use Rattle.dwarf_units.specs.NodeShapes.{code_count, null_shape, shape_of, short_code_at}
use Rattle.dwarf_units.specs.Private.NodeLayouts.{AreLayouts, HasSlotsOf, HasUsed, IsLayoutAt}
use Rattle.dwarf_units.specs.Private.{NodeLayouts.{IsLayoutOf, IsLayoutOfCode}, Runs.fixed_size}
use Rattle.dwarf_units.specs.Private.Slots.{AreSlots, used_in}
use Rattle.dwarf_units.specs.declared.node_layout.{NodeLayout.NodeLayout, NodeShape.NodeShape}
use Rattle.dwarf_units.specs.declared.value_slot.ValueSlots.{ValueSlots}

-- ---- a node with a shape

drop-there : (bytes : List ℕ) (at byte : ℕ) → slice_get bytes at ≡ Some byte
    → drop at bytes ≡ byte ∷ drop (at + 1) bytes
drop-there bytes at byte there = drop_more bytes at byte (slice_get_within bytes at byte there)
    ∙ ap (λ (b : ℕ). b ∷ drop (at + 1) bytes) (get_or_from_slice_get bytes at byte byte there)

one-byte : (bytes : List ℕ) (at low : ℕ) → slice_get bytes at ≡ Some low → low < 128
    → uleb_at bytes at ≡ Ok (low, at + 1)
one-byte bytes at low there small = uleb-again bytes at low (at + 1) (record {
  front = low ∷ [];
  rest = drop (at + 1) bytes;
  encoded = record {
    leb = small;
    len = omega arith;
    value_is = omega (arith, small);
    fits = omega (arith, small);
  };
  parts = drop-there bytes at low there;
  next_is = refl;
})

two-bytes : (bytes : List ℕ) (at low high : ℕ) → slice_get bytes at ≡ Some low → 128 ≤ low
    → slice_get bytes (at + 1) ≡ Some high → high < 128
    → uleb_at bytes at ≡ Ok (low % 128 + 128 * high, at + 2)
two-bytes bytes at low high there more then small = uleb-again bytes at _ (at + 2) (record {
  front = low ∷ high ∷ [];
  rest = drop (at + 1 + 1) bytes;
  encoded = record {
    leb = (more, small);
    len = omega arith;
    value_is = omega (arith, small);
    fits = omega (arith, small);
  };
  parts = drop-there bytes at low there ∙ ap (λ bs. low ∷ bs) (drop-there bytes (at + 1) high then);
  next_is = refl;
})

-- A short code is the one at its offset.
pub short-code : (bytes : List ℕ) (at code next : ℕ) → short_code_at bytes at ≡ Some (code, next)
    → uleb_at bytes at ≡ Ok (code, next)
short-code bytes at code next is =
    grind (arith, common_steps, is, one-byte bytes at, two-bytes bytes at)

-- Attributes that all have a fixed size end after this size.
fixed-there : (format : Format) (declared : List AttributeSpecification) (bytes : List ℕ)
    (at size : ℕ) → fixed_size (runs_of format declared) ≡ Some size → at + size ≤ length bytes
    → (all : List Attribute) × (attributes_at format declared bytes at ≡ Ok (all, at + size))
unfolding block_at
fixed-there format declared bytes at size is le =
    by_read (runs_of format declared).runs (runs_of format declared).rest
    (attributes_at format declared bytes at) is
    (runs-read false format bytes declared at (omega (arith, le)))
  where
    by_read : (runs : List Run) (rest : Stretch) (r : Result (List Attribute × ℕ) Cause)
        → cond (length runs == 0) (Some rest.len) None ≡ Some size
        → runs_at false format runs rest bytes at ≡ (r >>= stored_all false)
        → (all : List Attribute) × (r ≡ Ok (all, at + size))
    by_read [] rest (Ok all) is same = (all.0, grind (arith, le, is, same))
    by_read [] rest (Err e) is same = absurd (grind (arith, le, is, same))
    by_read (run ∷ runs) rest r is same = absurd (grind (arith, is))

pub shape-there : (table : Table) (depth code first : ℕ) (unit : List ℕ) (at : ℕ)
    (shape : NodeShape) → shape_at table code ≡ Some shape
    → short_code_at unit at ≡ Some (code, first) → 0 < depth → depth ≤ depth_limit
    → first + shape.len ≤ length unit
    → IsFixedSizeNode table depth unit at (shape, first + shape.len)
shape-there table depth code first unit at shape is there below within fits =
    by_code (code == 0) refl (grind (arith, is))
  where
    coded : uleb_at unit at ≡ Ok (code, first)
    coded = short-code unit at code first there

    by_found : (code == 0) ≡ false → (d : Declaration)
        → declaration_of table.declarations code ≡ Some d
        → shape_of table.format d ≡ Some shape
        → IsFixedSizeNode table depth unit at (shape, first + shape.len)
    by_found some d found h =
        let parts : (fixed_size (runs_of table.format d.attributes) ≡ Some shape.len)
        × (shape.is_null ≡ false) × (shape.tag ≡ d.tag) × (shape.children ≡ d.children) =
        grind (arith, h) in
        let read = fixed-there table.format d.attributes unit first shape.len parts.0
        (omega (arith, fits)) in
        let deeper : (depth == 0) ≡ false = ne_eqb depth 0 (λ e. absurd (omega (arith, e, below)))
        in (
          Entry d.tag d.children read.0,
          rw (coded, some, found, deeper, le-ltb depth_limit depth within, read.1) refl,
          (parts.1, parts.2, parts.3),
        )

    by_code : (b : Bool) → (code == 0) ≡ b
        → cond b (Some null_shape) (option_and_then (shape_of table.format)
        (declaration_of table.declarations code)) ≡ Some shape
        → IsFixedSizeNode table depth unit at (shape, first + shape.len)
    by_code true zero h =
        let end : first + 0 ≡ first = omega arith in
        rw (← same_Some null_shape shape h) (Null, rw (coded, zero, end) refl, refl)
    by_code false some h = option_and_then_some (shape_of table.format)
        (declaration_of table.declarations code) shape h (by_found some)

-- ---- the layouts by code

-- The tag and the used attributes of an entry.
abbrev tagged : (ℕ × List Attribute) × ℕ → Result ((ℕ × Used) × ℕ) Cause
tagged entry = Ok ((entry.0.0, used_among (stored_attributes true entry.0.1)), entry.1)

block-there : (n : ℕ) (bytes : List ℕ) (at : ℕ) → at + n ≤ length bytes
    → block_at n bytes at ≡ Ok (take n (drop at bytes), at + n)
unfolding block_at
block-there n bytes at le = grind (arith, le)

-- The used attributes of a declaration without runs are at their positions.
pub fixed-used : (format : Format) (own : List AttributeSpecification) (len : ℕ)
    (slots : ValueSlots) → fixed_size (runs_of format own) ≡ Some len
    → AreSlots (runs_of format own).rest.used slots
    → (bytes : List ℕ) (first : ℕ) → first + len ≤ length bytes
    → used_attributes_at true format own bytes first
    ≡ Ok (used_in slots (drop first bytes), first + len)
fixed-used format own len slots is are bytes first le = rw
    (slots-used (runs_of format own).rest.used slots bytes first are)
    (by_read (runs_of format own).runs (runs_of format own).rest
    (stored_attributes_at true format own bytes first) is
    (runs-read true format bytes own first (omega (arith, le))))
  where
    by_read : (runs : List Run) (rest : Stretch) (r : Result (List Attribute × ℕ) Cause)
        → cond (length runs == 0) (Some rest.len) None ≡ Some len
        → runs_at true format runs rest bytes first ≡ r
        → (r >>= used_all)
        ≡ Ok (used_among (attributes_in bytes first rest.used), first + len)
    by_read [] rest r is same =
        let len_is : rest.len ≡ len = same_Some rest.len len is in
        rw (← same, block-there rest.len bytes first (omega (arith, le, len_is)), len_is) refl
    by_read (run ∷ runs) rest r is same = absurd (grind (arith, is))

pub if_some-map : {X : Type 0} {P Q : X → Type 0} (r : Option X) → ((x : X) → P x → Q x)
    → IfSome r P → IfSome r Q
if_some-map None more is = is
if_some-map (Some x) more is = more x is

-- One more layout.
pub layouts-more : (format : Format) (ds : List Declaration) (code : ℕ)
    (layouts : List (Option NodeLayout)) (layout : Option NodeLayout)
    → AreLayouts format ds code layouts → IsLayoutOfCode format ds code layout
    → AreLayouts format ds (code + 1) (layouts ++ layout ∷ [])
layouts-more format ds code layouts layout so_far is = record {
  len = omega (arith, so_far.len, length-append layouts (layout ∷ []));
  each = λ k other at. by_place k other (at-last layouts layout other k at);
}
  where
    by_place : (k : ℕ) (other : Option NodeLayout)
        → (slice_get layouts k ≡ Some other) ⊎ ((k ≡ length layouts) × (layout ≡ other))
        → IsLayoutOfCode format ds k other
    by_place k other (inl before) = so_far.each k other before
    by_place k other (inr last) = rw (← last.1, last.0, so_far.len) is

-- The layout of a code, or none after the last code.
pub layout-there : (table : Table) (count : ℕ) (layouts : List (Option NodeLayout)) (code : ℕ)
    (layout : Option NodeLayout) → count ≡ code_count table.declarations
    → AreLayouts table.format table.declarations count layouts
    → slice_get layouts code ≡ Some layout → IsLayoutAt table code layout
layout-there table count layouts code layout counted are at =
    let is = are.each code layout at in
    let within = slice_get_within layouts code layout at in
    record { shape = grind (arith, is.shape, are.len, within, counted); slots = is.slots }

-- The layout that a lookup finds, or none after the last code.
pub layout-at : (table : Table) (count : ℕ) (layouts : List (Option NodeLayout)) (code : ℕ)
    (found : Option (Bor (Option NodeLayout))) → count ≡ code_count table.declarations
    → AreLayouts table.format table.declarations count layouts
    → is_some found ≡ nat_lt code (length layouts)
    → IfSome found (λ layout. layout.now ≡ get_or layouts code layout.now)
    → MatchOption found (IsLayoutAt table code None) (λ layout. IsLayoutAt table code layout.now)
layout-at table count layouts code None counted are within value =
    record { shape = grind (arith, are.len, counted, within); slots = cc }
layout-at table count layouts code (Some layout) counted are within value =
    layout-there table count layouts code layout.now counted are
    (sym (got layouts code (Some layout) within value))

-- The layout of a declaration is that of its code.
pub slots-of-code : (format : Format) (table : List Declaration) (code : ℕ) (d : Declaration)
    (layout : Option NodeLayout) → declaration_of table code ≡ Some d
    → IsLayoutOf format d layout → IfSome layout (HasSlotsOf format table code)
slots-of-code format table code d None found is = is.slots
slots-of-code format table code d (Some l) found is =
    let tag : d.tag ≡ l.shape.tag = grind (arith, is.shape) in
    if_some-map l.slots (λ slots used. (d, found, tag, used)) is.slots

-- An entry whose layout has slots has their used attributes.
pub layout-entry : (table : Table) (code first : ℕ) (unit : List ℕ) (at : ℕ) (l : NodeLayout)
    (slots : ValueSlots) → HasSlotsOf table.format table.declarations code l
    → l.slots ≡ Some slots → short_code_at unit at ≡ Some (code, first)
    → first + l.shape.len ≤ length unit → used_entry_at table unit at
    ≡ Ok ((l.shape.tag, used_in slots (drop first unit)), first + l.shape.len)
unfolding entry_at
layout-entry table code first unit at l slots of some there fits = by_slots (rw some at of)
  where
    by_read : (r : Result (List Attribute × ℕ) Cause) (tag : ℕ) → tag ≡ l.shape.tag
        → (r >>= stored_all true >>= used_all)
        ≡ Ok (used_in slots (drop first unit), first + l.shape.len)
        → (r >>= (λ a. Ok ((tag, a.0), a.1)) >>= tagged)
        ≡ Ok ((l.shape.tag, used_in slots (drop first unit)), first + l.shape.len)
    by_read r tag same is = grind (arith, same, is)

    by_slots : ((d : Declaration) × (declaration_of table.declarations code ≡ Some d)
        × (d.tag ≡ l.shape.tag) × HasUsed table.format d l.shape.len slots)
        → used_entry_at table unit at
        ≡ Ok ((l.shape.tag, used_in slots (drop first unit)), first + l.shape.len)
    by_slots (d, found, tag, used) = rw (short-code unit at code first there, found)
        (by_read (attributes_at table.format d.attributes unit first) d.tag tag
        (used unit first fits))
