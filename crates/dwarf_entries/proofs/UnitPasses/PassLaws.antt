-- A pass over a list, which stops at the first element that is refused.
use Rattle.dwarf_entries.proofs.Common
use Common.{◌≡◌, ◌⊎◌, ℕ, zero, suc, ◌+◌, ◌<◌, ◌≤◌, List, [], ◌∷◌, ◌++◌, length, map, take, drop}
use Common.{get_or, refl, ap, sym, ◌∙◌, arith, length-append, Some, Result, Ok, Err, slice_get}
use Common.{take_all, slice_get_within, get_or_from_slice_get, Cause, LoadFault, ◌>>=◌, at_item}
use Common.{in_section, each-length, PassedTo, DebugInfo, take_more, slice_get_read, At, each_from}
use Common.{with_offset, Fails, memory_fault, take-append-drop, drop-cons, each, each-append}
use Common.{each-place, IsErrAnd}

-- ---- elements by index

pub element : {X : Type 0} (xs : List X) (n : ℕ) → n < length xs
    → (x : X) × (slice_get xs n ≡ Some x)
element [] n lt = absurd (omega (arith, lt))
element (x ∷ xs) zero lt = (x, refl)
element (x ∷ xs) (suc n) lt = element xs n (omega (arith, lt))

-- An element of a mapped list.
pub from-map : {X Y : Type 0} (f : X → Y) (xs : List X) (i : ℕ) (y : Y)
    → slice_get (map f xs) i ≡ Some y
    → (x : X) × (slice_get xs i ≡ Some x) × (f x ≡ y)
from-map f [] i y h = cc
from-map f (x ∷ xs) zero y h = (x, refl, grind arith)
from-map f (x ∷ xs) (suc i) y h = from-map f xs i y h

-- The element that a lookup returns.
pub found-at : {X : Type 0} (list items : List X) (n : ℕ) (x : X) → list ≡ items
    → (n < length list) × ((d : X) → x ≡ get_or list n d) → slice_get items n ≡ Some x
found-at list items n x same found =
    rw (← same) (slice_get_read list (length list) n x refl found.0 (found.1 x))

-- The element that an element of the result was made from.
pub each-at : {X Y : Type 0} (make : List Y → X → Result Y At) (before : List Y) (xs : List X)
    (ys : List Y) → each_from make before xs ≡ Ok ys → (i : ℕ) (y : Y) → slice_get ys i ≡ Some y
    → (x : X) × (slice_get xs i ≡ Some x) × (make (before ++ take i ys) x ≡ Ok y)
each-at make before xs ys h i y found =
    let within = slice_get_within ys i y found in
    let size = each-length make before xs ys h in
    let x = element xs i (omega (arith, within, size)) in
    let read = each-place make before xs ys h i x.0 y (omega (arith, within, size)) in
    grind (arith, get_or_from_slice_get)

-- ---- faults

-- The result at the exit of a `?`.
pub exit : {T E : Type 0} {e : E} (r : Result T E) → IsErrAnd r (λ y. y ≡ e) → r ≡ Err e
exit (Ok x) h = absurd h
exit {T} {E} (Err y) h = ap (λ (z : E). let r : Result T E = Err z in r) h

-- The fault of the first of two steps.
pub step-fault : {X Y E P : Type 0} {e : E} (r : Result X E) (f : X → Result Y E)
    → P ⊎ (r ≡ Err e) → P ⊎ ((r >>= f) ≡ Err e)
step-fault r f bad = grind arith

-- The fault of an element, reported at its offset.
pub item-fault : {X : Type 0} (r : Result X Cause) (cause : Cause) (at : ℕ) → Fails cause r
    → (at_item DebugInfo cause at ≡ memory_fault)
    ⊎ (in_section DebugInfo (with_offset at r) ≡ Err (at_item DebugInfo cause at))
item-fault r cause at bad = grind arith

-- The fault of a read in .debug_info, or memory ran out.
abbrev pub Faults : {X : Type 0} → LoadFault → Result X At → Type 0
Faults fault r = (fault ≡ memory_fault) ⊎ (in_section DebugInfo r ≡ Err fault)

-- The same for steps in .debug_info.
pub first-fault : {X Y : Type 0} {fault : LoadFault} (r : Result X At) (f : X → Result Y At)
    → Faults fault r → Faults fault (r >>= f)
first-fault r f bad = grind arith

-- ---- the iterations

pub pass-none : {X Y : Type 0} {make : List Y → X → Result Y At} {xs : List X}
    → PassedTo make xs 0 []
unfolding each_from
pass-none = record { len = refl; read = refl }

module _ {X Y : Type 0} {make : List Y → X → Result Y At} {xs : List X} {index : ℕ}
    {made : List Y} (passed : PassedTo make xs index made) where
  -- The element at the index, after those before it.
  then : (more : List X) → each make (take index xs ++ more)
      ≡ (each_from make made more >>= λ ys. Ok (made ++ ys))
  then more = rw (each-append make [] (take index xs) more, passed.read) refl

  pub pass-next : (x : X) (y : Y) → slice_get xs index ≡ Some x → make made x ≡ Ok y
      → PassedTo make xs (index + 1) (made ++ y ∷ [])
  unfolding each_from
  pass-next x y found is =
      let more = take_more xs index x (slice_get_within xs index x found) in
      let here = get_or_from_slice_get xs index x x found in
      let joined = then (x ∷ []) in
      grind (arith, passed.len, length-append made (y ∷ []))

  pub pass-end : length xs ≤ index → each make xs ≡ Ok made
  pass-end past = ap (each make) (sym (take_all index xs past)) ∙ passed.read

  -- The whole list has the fault of the element at the index.
  pub pass-refused : (x : X) (e : At) → slice_get xs index ≡ Some x → make made x ≡ Err e
      → each make xs ≡ Err e
  unfolding each_from
  pass-refused x e found is =
      let within = slice_get_within xs index x found in
      let here = get_or_from_slice_get xs index x x found in
      let rest = then (x ∷ drop (suc index) xs) in
      grind (arith, take-append-drop index xs, drop-cons xs index x)

  pub pass-fault : {fault : LoadFault} (x : X) → slice_get xs index ≡ Some x
      → Faults fault (make made x) → Faults fault (each make xs)
  pass-fault x found bad = grind (arith, pass-refused)
