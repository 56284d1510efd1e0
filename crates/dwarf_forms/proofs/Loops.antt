-- A loop that reads items at a cursor.
use Rattle.dwarf_bytes.proofs.Items.Turns.{SoFar, so-far-end, so-far-fault, so-far-item}
use Rattle.dwarf_bytes.specs.{Items.{Advances, End, Item, Next, items_from}, Position.Position}
use Rattle.dwarf_bytes.specs.declared.fault.Cause.{Cause}
use Rattle.std.proofs.Common.{Err, List, Ok, Result, [], length, ℕ, ◌++◌, ◌<◌, ◌∙◌, ◌∷◌, ◌≡◌, ◌≤◌}

-- The items that were read from offset `first` on, and the cursor after them.
pub record ItemsSoFar {X : Type 0} (step : List ℕ → List X → ℕ → Result (Next X) Cause)
    (first : ℕ) (bytes : List ℕ) (items : List X) (cursor : Position) : Type 0 where
  pub bytes_are : cursor.bytes ≡ bytes
  pub read : SoFar (length bytes) (step bytes) first items cursor.place

module _ {X : Type 0} {step : List ℕ → List X → ℕ → Result (Next X) Cause} {first : ℕ}
    {bytes : List ℕ} {items : List X} {cursor : Position}
    (advances : Advances (length bytes) (step bytes))
    (so_far : ItemsSoFar step first bytes items cursor) where
  -- an iteration that reads an item
  pub one-more : (new : Position) (x : X)
      → step cursor.bytes items cursor.place ≡ Ok (Item x new.place) → new.bytes ≡ cursor.bytes
      → ItemsSoFar step first bytes (items ++ x ∷ []) new × (cursor.place < new.place)
      × (new.place ≤ length bytes)
  one-more new x is same =
      let read = rw so_far.bytes_are at is in
      let moved = advances items cursor.place x new.place read in (
        record {
          bytes_are = same ∙ so_far.bytes_are;
          read = so-far-item _ _ advances first items cursor.place x new.place so_far.read read;
        },
        moved.0,
        moved.1,
      )

  -- the end of the items
  pub all-read : (after : ℕ) → step cursor.bytes items cursor.place ≡ Ok (End after)
      → items_from (length bytes) (step bytes) [] first ≡ Ok (items, after)
  all-read after is =
      so-far-end _ _ advances first items cursor.place after so_far.read (rw so_far.bytes_are at is)

  -- an invalid item
  pub first-fault : (cause : Cause) → step cursor.bytes items cursor.place ≡ Err cause
      → items_from (length bytes) (step bytes) [] first ≡ Err (cause, cursor.place)
  first-fault cause is =
      so-far-fault _ _ advances first items cursor.place cause so_far.read
      (rw so_far.bytes_are at is)
