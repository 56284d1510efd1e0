-- How a decoding call is refused: with the first fault of the bytes, or because memory ran out,
-- which is not a fault of the bytes.
use Rattle.std.specs.Prelude.{◌≡◌, ◌⊎◌, ℕ, List, Option, Some, None, Result, Ok, Err, Vec}
use Rattle.std.specs.declared.alloc.Global.{Global}
use Rattle.dwarf_bytes.specs.declared.fault.Section.{Section}
use Rattle.dwarf_bytes.specs.declared.fault.Section.TheVariants as sections
use Rattle.dwarf_bytes.specs.declared.fault.Cause.{Cause}
use Rattle.dwarf_bytes.specs.declared.fault.Cause.TheVariants as causes
use Rattle.dwarf_bytes.specs.declared.fault.LoadFault.{LoadFault}
use Rattle.dwarf_bytes.specs.Items.{At, Next, Item, End}
use Rattle.dwarf_bytes.specs.Position.{Position}

-- out of memory
abbrev pub memory_fault : LoadFault
memory_fault = record { section = sections.Elf; cause = causes.Memory; at = 0 }

-- the reported fault of an item with this cause
abbrev pub at_item : Section → Cause → ℕ → LoadFault
at_item section causes.Memory at = memory_fault
at_item section cause at = record { section = section; cause = cause; at = at }

-- converts the fault of an item into a fault of its section
abbrev pub in_section : {X : Type 0} → Section → Result X At → Result X LoadFault
in_section section (Ok x) = Ok x
in_section section (Err e) = Err (record { section = section; cause = e.0; at = e.1 })

-- The cause of a step that may allocate: out of memory, or the cause of the outcome.
abbrev pub Fails : {Y : Type 0} → Cause → Result Y Cause → Type 0
Fails cause outcome = (cause ≡ causes.Memory) ⊎ (outcome ≡ Err cause)

-- The result of a decoding call, converted by view, is the outcome, unless memory ran out.
abbrev pub Decodes : {X Y : Type 0} → (X → Y) → Result X LoadFault → Result Y LoadFault → Type 0
Decodes view (Ok x) outcome = outcome ≡ Ok (view x)
Decodes view (Err fault) outcome = (fault ≡ memory_fault) ⊎ (outcome ≡ Err fault)

-- The result of a step on a cursor is the value read at the offset, and the cursor moves after it.
-- After a fault the position of the cursor is unspecified.
abbrev pub ReadsField : {X Y : Type 0} → (X → Y) → Result X Cause
    → (List ℕ → ℕ → Result (Y × ℕ) Cause) → Position →
    Position → Type 0
ReadsField view (Ok x) read old new =
    (read old.bytes old.place ≡ Ok (view x, new.place)) × (new.bytes ≡ old.bytes)
ReadsField view (Err cause) read old new = read old.bytes old.place ≡ Err cause

-- the same for a read that only determines the offset after it
abbrev pub ReadsPlace : {X : Type 0} → Result X Cause → (List ℕ → ℕ → Result ℕ Cause) → Position
    → Position → Type 0
ReadsPlace (Ok _) read old new = (read old.bytes old.place ≡ Ok new.place) × (new.bytes ≡ old.bytes)
ReadsPlace (Err cause) read old new = read old.bytes old.place ≡ Err cause

-- The list in memory has the items that are read, and the cursor moves after them, unless memory
-- ran out.
abbrev pub ReadsItems : {X : Type 0} → Result (Vec X Global) Cause
    → (List ℕ → ℕ → Result (List X × ℕ) Cause) →
    Position → Position → Type 0
ReadsItems (Ok v) read old new =
    (read old.bytes old.place ≡ Ok (v.items, new.place)) × (new.bytes ≡ old.bytes)
ReadsItems (Err cause) read old new = Fails cause (read old.bytes old.place)

-- The result of a step on a cursor is the next item or the end of the items, and the cursor moves
-- after it. After a fault the position of the cursor is unspecified.
abbrev pub ReadsNext : {X : Type 0} → Result (Option X) Cause → (List ℕ → ℕ → Result (Next X) Cause)
    → Position →
    Position → Type 0
ReadsNext (Ok (Some x)) step old new =
    (step old.bytes old.place ≡ Ok (Item x new.place)) × (new.bytes ≡ old.bytes)
ReadsNext (Ok None) step old new =
    (step old.bytes old.place ≡ Ok (End new.place)) × (new.bytes ≡ old.bytes)
ReadsNext (Err cause) step old new = step old.bytes old.place ≡ Err cause

-- The result of a step, converted by view, is the outcome, unless memory ran out.
abbrev pub Gives : {X Y : Type 0} → (X → Y) → Result X Cause → Result Y Cause → Type 0
Gives view (Ok x) outcome = outcome ≡ Ok (view x)
Gives view (Err cause) outcome = Fails cause outcome

-- A validation pass, which stores nothing, fails if and only if the outcome does, with the same
-- fault, unless memory ran out.
abbrev pub Validates : {Y : Type 0} → Result (Unit {0}) LoadFault → Result Y LoadFault → Type 0
Validates {Y} (Ok u) outcome = (y : Y) × (outcome ≡ Ok y)
Validates (Err fault) outcome = (fault ≡ memory_fault) ⊎ (outcome ≡ Err fault)

-- The value that a step builds, converted by view, is `whole`, unless memory ran out.
abbrev pub Builds : {X Y : Type 0} → (X → Y) → Result X LoadFault → Y → Type 0
Builds view (Ok x) whole = view x ≡ whole
Builds view (Err fault) whole = fault ≡ memory_fault
