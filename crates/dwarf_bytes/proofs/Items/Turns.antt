-- The iterations of a loop over items, with the items read so far.
use Rattle.std.proofs.Common.{◌≡◌, ℕ, ◌<◌, ◌≤◌, List, [], ◌∷◌, ◌++◌, refl, sym, ◌∙◌, append-nil, ap}
use Rattle.std.proofs.Common.{subst, arith}
use Rattle.std.specs.Prelude.{Result, Ok, Err, Option, Some, None}
use Rattle.dwarf_bytes.specs.declared.fault.Cause.{Cause}
use Rattle.dwarf_bytes.specs.Items.{At, Next, Item, End, items_from, Advances, Lists}
use Rattle.dwarf_bytes.specs.Position.{Position}
use Rattle.dwarf_bytes.specs.Refusals.{ReadsNext}
use Rattle.dwarf_bytes.proofs.Items.ItemLaws.{with_front, loop-item, loop-end, loop-fault}

-- the items so far, followed by the items from here on, are all items from the first offset on
abbrev pub SoFar : {X : Type 0} → ℕ → (List X → ℕ → Result (Next X) Cause) → ℕ → List X → ℕ → Type 0
SoFar end step first before at = with_front before (items_from end step before at)
    ≡ items_from end step [] first

pub so-far-none : {X : Type 0} (end : ℕ) (step : List X → ℕ → Result (Next X) Cause) (first : ℕ)
    → SoFar end step first [] first
so-far-none {X = X} end step first = by_read (items_from end step [] first)
  where
    by_read : (read : Result (List X × ℕ) At) → with_front [] read ≡ read
    by_read (Ok rest) = refl
    by_read (Err e) = refl

pub so-far-item : {X : Type 0} (end : ℕ) (step : List X → ℕ → Result (Next X) Cause)
    → Advances end step
    → (first : ℕ) (before : List X) (at : ℕ) (x : X) (after : ℕ)
    → SoFar end step first before at → step before at ≡ Ok (Item x after)
    → SoFar end step first (before ++ x ∷ []) after
so-far-item end step adv first before at x after so_far is =
    sym (loop-item end step adv before at x after is) ∙ so_far

pub so-far-end : {X : Type 0} (end : ℕ) (step : List X → ℕ → Result (Next X) Cause)
    → Advances end step
    → (first : ℕ) (before : List X) (at after : ℕ)
    → SoFar end step first before at → step before at ≡ Ok (End after)
    → items_from end step [] first ≡ Ok (before, after)
so-far-end end step adv first before at after so_far is =
    sym so_far ∙ (loop-end end step adv before at after is ∙ ap (λ (xs : List _). Ok (xs, after))
    (append-nil before))

pub so-far-fault : {X : Type 0} (end : ℕ) (step : List X → ℕ → Result (Next X) Cause)
    → Advances end step
    → (first : ℕ) (before : List X) (at : ℕ) (cause : Cause)
    → SoFar end step first before at → step before at ≡ Err cause → items_from end step [] first
    ≡ Err (cause, at)
so-far-fault end step adv first before at cause so_far is =
    sym so_far ∙ loop-fault end step adv before at cause is

-- each item has at least one byte, and so does the end of the items
abbrev pub Ends : {X : Type 0} → ℕ → (List X → ℕ → Result (Next X) Cause) → Type 0
Ends {X} end step = (before : List X) (at after : ℕ) → step before at ≡ Ok (End after)
    → (at < after) × (after ≤ end)

pub Lists-moves : {X : Type 0} (end : ℕ) (step : List X → ℕ → Result (Next X) Cause)
    → Advances end step
    → Ends end step → (before : List X) (at : ℕ) (xs : List X) (after : ℕ)
    → Lists step before at xs after → (at < after) × (after ≤ end)
Lists-moves end step adv ends before at [] after h = ends before at after h
Lists-moves end step adv ends before at (x ∷ xs) after h =
    let here = adv before at x h.0 h.1 in
    let behind = Lists-moves end step adv ends (before ++ x ∷ []) h.0 xs after h.2 in
    (omega (arith, here.0, behind.0), behind.1)

pub None-from-no-Some : {A : Type 0} (o : Option A) → ((x : A) → o ≡ Some x → ⊥) → o ≡ None
None-from-no-Some None h = refl
None-from-no-Some (Some x) h = absurd (h x refl)

-- ---- the result of an iteration, with variables for the cursor's bytes and the list so far

pub next-item : {X : Type 0} (step : List ℕ → List X → ℕ → Result (Next X) Cause) (bytes : List ℕ)
    (old new : Position)
    (seen before : List X) (found : Option X) (x : X)
    → old.bytes ≡ bytes → seen ≡ before → ReadsNext (Ok found) (λ b. step b seen) old new
    → found ≡ Some x
    → (step bytes before old.place ≡ Ok (Item x new.place)) × (new.bytes ≡ bytes)
next-item {X = X} step bytes old new seen before (Some y) x same listed read is =
    let eq : y ≡ x = cc in (
      subst (λ (z : X). step bytes before old.place ≡ Ok (Item z new.place)) eq
          (rw (← same, ← listed) read.0),
      read.1
          ∙ same,
    )
next-item step bytes old new seen before None x same listed read is = cc

pub next_end : {X : Type 0} (step : List ℕ → List X → ℕ → Result (Next X) Cause) (bytes : List ℕ)
    (old new : Position)
    (seen before : List X) (found : Option X)
    → old.bytes ≡ bytes → seen ≡ before → ReadsNext (Ok found) (λ b. step b seen) old new
    → found ≡ None
    → (step bytes before old.place ≡ Ok (End new.place)) × (new.bytes ≡ bytes)
next_end step bytes old new seen before (Some y) same listed read is = cc
next_end step bytes old new seen before None same listed read is =
    (rw (← same, ← listed) read.0, read.1 ∙ same)

pub next-fault : {X : Type 0} (step : List ℕ → List X → ℕ → Result (Next X) Cause) (bytes : List ℕ)
    (old : Position)
    (seen before : List X) (cause : Cause)
    → old.bytes ≡ bytes → seen ≡ before → step old.bytes seen old.place ≡ Err cause
    → step bytes before old.place ≡ Err cause
next-fault step bytes old seen before cause same listed read = rw (← same, ← listed) read
