-- Consecutive items. Each is validated by its own tests in order, once all items before it are
-- valid. The value of an item may depend on the list of the items before it, and on nothing else
-- that precedes it.
use Rattle.std.specs.Prelude.{◌≡◌, ℕ, zero, suc, ◌-◌, ◌<◌, ◌≤◌, List, [], ◌∷◌, ◌++◌, Bool, true}
use Rattle.std.specs.Prelude.{false, Result, Ok, Err}
use Rattle.dwarf_bytes.specs.declared.fault.ReadFault.{ReadFault}
use Rattle.dwarf_bytes.specs.declared.fault.Cause.{Cause}
use Rattle.dwarf_bytes.specs.declared.fault.Cause.TheVariants as causes
use Rattle.dwarf_bytes.specs.Bind.{◌>>=◌}
use Rattle.dwarf_bytes.specs.Words.{cause_of}

-- A fault of an item: the cause, and the offset of the item.
abbrev pub At : Type 0
At = Cause × ℕ

-- What is at an offset: an item and the offset after it, or the end of the items.
pub data Next (X : Type 0) : Type 0 where
  Item : X → ℕ → Next X
  End : ℕ → Next X

-- a read whose fault is converted into a cause
abbrev pub reading : {X : Type 0} → Result X ReadFault → Result X Cause
reading (Ok x) = Ok x
reading (Err e) = Err (cause_of e)

-- refuses with the cause if the test is true
abbrev pub refuse_if : Bool → Cause → Result (Unit {0}) Cause
refuse_if true cause = Err cause
refuse_if false cause = Ok tt

-- adds the offset of the item to a fault
abbrev pub with_offset : {X : Type 0} → ℕ → Result X Cause → Result X At
with_offset at (Ok x) = Ok x
with_offset at (Err cause) = Err (cause, at)

-- removes the offset from a fault
abbrev pub without_offset : {X : Type 0} → Result X At → Result X Cause
without_offset (Ok x) = Ok x
without_offset (Err e) = Err e.0

-- The items from an offset on, and the offset after them. n is a bound on the number of steps.
unfoldable pub items_within : {X : Type 0} → ℕ → (List X → ℕ → Result (Next X) Cause) → List X → ℕ →
    Result (List X × ℕ) At
items_within zero step before at = Err (causes.Short, at)
items_within (suc n) step before at = with_offset at (step before at) >>= λ next.
    elim next [
      | End after ↦ Ok ([], after)
      | Item x after ↦ items_within n step (before ++ x ∷ []) after
          >>= λ rest. Ok (x ∷ rest.0, rest.1)
    ]

-- the same if each item has at least one byte and ends at or before `end`
abbrev pub items_from : {X : Type 0} → ℕ → (List X → ℕ → Result (Next X) Cause) → List X → ℕ
    → Result (List X × ℕ) At
items_from end step before at = items_within (suc (end - at)) step before at

-- each item has at least one byte and ends at or before `end`
abbrev pub Advances : {X : Type 0} → ℕ → (List X → ℕ → Result (Next X) Cause) → Type 0
Advances {X} end step =
    (before : List X) (at : ℕ) (x : X) (after : ℕ) → step before at ≡ Ok (Item x after)
    → (at < after) × (after ≤ end)

-- Maps a list, in order, with a step that may fail. The result for an element may depend on the
-- results for the elements before it.
unfoldable pub each_from : {X Y : Type 0} → (List Y → X → Result Y At) → List Y → List X
    → Result (List Y) At
each_from make before [] = Ok []
each_from make before (x ∷ xs) = do
  y ← make before x
  ys ← each_from make (before ++ y ∷ []) xs
  Ok (y ∷ ys)

-- the same, from the first element on
abbrev pub each : {X Y : Type 0} → (List Y → X → Result Y At) → List X → Result (List Y) At
each make xs = each_from make [] xs

-- The whole-list form: the items are at these offsets, the step returns each after the items before
-- it, and the step returns the end after all of them.
abbrev pub Lists : {X : Type 0} → (List X → ℕ → Result (Next X) Cause) → List X → ℕ → List X → ℕ
    → Type 0
Lists step before at [] after = step before at ≡ Ok (End after)
Lists step before at (x ∷ xs) after =
    (mid : ℕ) × (step before at ≡ Ok (Item x mid)) × Lists step (before ++ x ∷ []) mid xs after

-- Valid items fill the bytes between two offsets: the step returns each after the ones before it.
abbrev pub Reach : {X : Type 0} → (List X → ℕ → Result (Next X) Cause) → List X → ℕ → List X → ℕ
    → Type 0
Reach step before at [] offset = at ≡ offset
Reach step before at (x ∷ xs) offset =
    (mid : ℕ) × (step before at ≡ Ok (Item x mid)) × Reach step (before ++ x ∷ []) mid xs offset

-- The first invalid item of a list: all items before its offset are valid, and the step refuses
-- there.
pub record IsFirstInvalid {X : Type 0} (step : List X → ℕ → Result (Next X) Cause) (before : List X)
    (at : ℕ) (cause : Cause) (offset : ℕ) : Type 0 where
  pub items : List X
  pub valid : Reach step before at items offset
  pub refused : step (before ++ items) offset ≡ Err cause

-- The first element of a list that is refused: all elements before it are accepted.
pub record IsFirstRefused {X Y : Type 0} (make : List Y → X → Result Y At) (before : List Y)
    (xs : List X) (fault : At) : Type 0 where
  pub front : List X
  pub element : X
  pub rest : List X
  pub made : List Y
  pub parts : xs ≡ front ++ element ∷ rest
  pub made_is : each_from make before front ≡ Ok made
  pub refused : make (before ++ made) element ≡ Err fault
