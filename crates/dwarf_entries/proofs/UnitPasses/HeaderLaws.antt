-- The units of .debug_info are contiguous, and their headers have bounds.
use Rattle.dwarf_entries.proofs.Common
use Common.{◌≡◌, ℕ, ◌≤◌, List, [], ◌∷◌, ◌++◌, length, arith, Ok, All, Format, bind_ok, same-ok}
use Common.{UnitHeader, length-take, AllPairs, Lists, units_of, AllPairs-filter, filter, All-filter}
use Common.{items_from, is_read, header_in, unit_at, header_at, headers_of, initial_length_at-moves}
use Common.{Lists-within, fixed_at-moves, header_in-places, unit_at-moves, AreContiguous}
use Common.{common_steps, ◌-◌}
use Rattle.dwarf_bytes.specs.Numbers.{fixed_at, offset_at}

-- ---- the bounds of a unit

fixed-stays : (n : ℕ) (bytes : List ℕ) (at : ℕ) (x : ℕ × ℕ) → fixed_at n bytes at ≡ Ok x
    → (at ≤ x.1) × (x.1 ≤ length bytes)
fixed-stays n bytes at x h = grind (arith, fixed_at-moves n bytes at x h)

offset-stays : (format : Format) (bytes : List ℕ) (at : ℕ) (x : ℕ × ℕ)
    → offset_at format bytes at ≡ Ok x → (at ≤ x.1) × (x.1 ≤ length bytes)
offset-stays format bytes at x h =
    grind (arith, fixed-stays 4 bytes at x, fixed-stays 8 bytes at x)

-- The first entry is not before the start of its unit and not after its end.
header_in-first : (start : ℕ) (format : Format) (unit : List ℕ) (at : ℕ) (header : UnitHeader)
    → header_in start format unit at ≡ Ok header
    → (at ≤ header.first) × (header.first ≤ length unit)
header_in-first start format unit at header h = grind (arith, fixed-stays, offset-stays)

-- The bounds in a header are in order, within the section.
pub record HasBounds (size : ℕ) (header : UnitHeader) : Type 0 where
  pub first : header.start ≤ header.first
  pub last : header.first ≤ header.end
  pub within : header.end ≤ size

unit_at-bounds : (info : List ℕ) (at : ℕ) (header : UnitHeader) → unit_at info at ≡ Ok header
    → (header.start ≡ at) × HasBounds (length info) header
unfolding unit_at
unit_at-bounds info at header h =
    let start = initial_length_at-moves info at in
    grind (arith, start, unit_at-moves, header_in-places, header_in-first, length-take)

-- ---- contiguous units

list-contiguous : (info : List ℕ) (before : List UnitHeader) (at : ℕ) (headers : List UnitHeader)
    (after : ℕ) → Lists (header_at info) before at headers after → at ≤ length info
    → AreContiguous info at headers
list-contiguous info before at [] after h le = grind arith
list-contiguous info before at (header ∷ headers) after h le =
    let rest = list-contiguous info (before ++ header ∷ []) h.0 headers after h.2 in
    grind (arith, h.1, unit_at-moves info at, unit_at-bounds info at, rest)

pub units_contiguous : (info : List ℕ) (headers : List UnitHeader) → headers_of info ≡ Ok headers
    → AreContiguous info 0 headers
unfolding headers_of
units_contiguous info headers h =
    let all = bind_ok (items_from (length info) (header_at info) [] 0) _ headers h in
    rw (← same-ok all.0.0 headers all.2) (list-contiguous info [] 0 all.0.0 all.0.1 (Lists-within _
    (header_at info) [] 0 all.0.0 all.0.1 all.1) (omega arith))

-- A unit ends at or before the start of another.
abbrev pub IsBefore : UnitHeader → UnitHeader → Type 0
IsBefore a b = a.end ≤ b.start

pub record AreHeadersIn (size : ℕ) (headers : List UnitHeader) : Type 0 where
  pub apart : AllPairs IsBefore headers
  pub bounded : All (HasBounds size) headers

-- The start and the bounds of a header of contiguous units.
headers-at : (info : List ℕ) (at : ℕ) (headers : List UnitHeader) → AreContiguous info at headers
    → All (λ header. (at ≤ header.start) × HasBounds (length info) header) headers
headers-at info at [] h k d lt = absurd (omega (arith, lt))
headers-at info at (header ∷ headers) h k d lt =
    grind (arith, unit_at-bounds, headers-at info header.end headers h.3 (k - 1) d)

headers-apart : (info : List ℕ) (at : ℕ) (headers : List UnitHeader)
    → AreContiguous info at headers → AllPairs IsBefore headers
headers-apart info at [] h i j d less lt = absurd (omega (arith, lt))
headers-apart info at (header ∷ headers) h i j d less lt =
    let later = headers-apart info header.end headers h.3 (i - 1) (j - 1) d in
    grind (arith, common_steps, headers-at)

pub headers-in : (info : List ℕ) (headers : List UnitHeader) → units_of info ≡ Ok headers
    → AreHeadersIn (length info) headers
unfolding units_of
headers-in info headers h =
    let all = bind_ok (headers_of info) _ headers h in
    let contiguous = units_contiguous info all.0 all.1 in
    rw (← same-ok (filter is_read all.0) headers all.2) (record {
      apart = AllPairs-filter IsBefore is_read all.0 (headers-apart info 0 all.0 contiguous);
      bounded = All-filter is_read (HasBounds (length info)) all.0
          (λ k d lt. (headers-at info 0 all.0 contiguous k d lt).1);
    })
