-- One step of reading a table.
use Rattle.std.specs.Prelude.{◌≡◌, ℕ, List, [], ◌∷◌, ◌++◌, Bool, true, false, Result, Ok, Err}
use Rattle.dwarf_bytes.specs.{declared.fault.Cause.Cause, Items.{Item, End}, Refusals.Fails}
use Rattle.dwarf_bytes.specs.Position.{Position}
use Rattle.dwarf_forms.specs.{Declarations.Declaration, Tables.declaration_at}

-- The declaration at the cursor is appended to the table, or the end of the table is there. The
-- cursor moves after it.
abbrev pub ExtendsTable : Result Bool Cause → ℕ → List Declaration → List Declaration → Position
    → Position → Type 0
ExtendsTable (Ok true) budget before after old new =
    (d : Declaration) × (declaration_at budget old.bytes before old.place ≡ Ok (Item d new.place))
    × (after ≡ before ++ d ∷ []) × (new.bytes ≡ old.bytes)
ExtendsTable (Ok false) budget before after old new =
    (declaration_at budget old.bytes before old.place ≡ Ok (End new.place)) × (after ≡ before)
    × (new.bytes ≡ old.bytes)
ExtendsTable (Err cause) budget before after old new =
    Fails cause (declaration_at budget old.bytes before old.place)
