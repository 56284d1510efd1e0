-- The iterations of the loop over the declarations of a table.
use Rattle.dwarf_bytes.{proofs.Items.ItemLaws.items_from-step, specs.Numbers.{leb_front, uleb_at}}
use Rattle.dwarf_bytes.specs.{Position.Position, Refusals.{Fails, at_item, in_section}}
use Rattle.dwarf_bytes.specs.{Refusals.memory_fault, declared.fault.Cause.Cause}
use Rattle.dwarf_bytes.specs.declared.fault.{LoadFault.LoadFault, ReadFault.TheVariants.Short}
use Rattle.dwarf_forms.proofs.{EncodedTables.table-decoded, Loops.{ItemsSoFar, all-read}}
use Rattle.dwarf_forms.proofs.{Loops.{first-fault, one-more}, Moves.declaration_at-advances}
use Rattle.dwarf_forms.specs.{Declarations.Declaration, Steps.ExtendsTable, Tables.declaration_at}
use Rattle.dwarf_forms.specs.Tables.{declarations_of, table_at}
use Rattle.std.proofs.Common.{Err, List, Ok, [], arith, false, length, refl, true, ℕ, ◌<◌, ◌≡◌, ◌≤◌}
use Rattle.std.proofs.{Common.◌⊎◌, lemmas.List.drop_all}
use Rattle.dwarf_bytes.specs.declared.fault.Section.TheVariants as sections
use Rattle.dwarf_bytes.specs.declared.fault.Cause.TheVariants as causes

module _ (budget : ℕ) {first : ℕ} {bytes : List ℕ} {before : List Declaration} {old : Position}
    (so_far : ItemsSoFar (declaration_at budget) first bytes before old) where
  -- an iteration that reads a declaration
  pub turn-item : (after : List Declaration) (new : Position)
      → ExtendsTable (Ok true) budget before after old new
      → ItemsSoFar (declaration_at budget) first bytes after new × (old.place < new.place)
      × (new.place ≤ length bytes)
  turn-item after new step =
      let turn = one-more (declaration_at-advances budget bytes) so_far new step.0 step.1 step.3 in
      (rw step.2 turn.0, turn.1, turn.2)

  -- the end of the table
  pub turn_end : (after : List Declaration) (new : Position)
      → ExtendsTable (Ok false) budget before after old new
      → (in_section sections.DebugAbbrev (declarations_of budget bytes first) ≡ Ok after)
      × (length after ≤ budget)
  unfolding table_at
  turn_end after new step =
      let all = all-read (declaration_at-advances budget bytes) so_far new.place step.0 in
      rw step.1 (rw all refl, ((table-decoded budget bytes first before new.place).0 all).2)

  -- an invalid declaration
  pub turn-fault : (cause : Cause) (place : ℕ) (fault : LoadFault)
      → Fails cause (declaration_at budget old.bytes before old.place) → place ≡ old.place
      → fault ≡ at_item sections.DebugAbbrev cause place → (fault ≡ memory_fault)
      ⊎ (in_section sections.DebugAbbrev (declarations_of budget bytes first) ≡ Err fault)
  unfolding table_at
  turn-fault cause place fault fails at is =
      let end = first-fault (declaration_at-advances budget bytes) so_far cause in
      grind (arith, fails, at, is, end)

-- ---- a table outside the section

uleb_at-outside : (bytes : List ℕ) (at : ℕ) → length bytes ≤ at → uleb_at bytes at ≡ Err Short
unfolding uleb_at leb_front
uleb_at-outside bytes at h = rw (drop_all at bytes h) refl

pub outside : (budget : ℕ) (bytes : List ℕ) (offset : ℕ) → length bytes ≤ offset
    → declarations_of budget bytes offset ≡ Err (causes.Short, offset)
unfolding table_at
outside budget bytes offset h =
    let none : declaration_at budget bytes [] offset ≡ Err causes.Short =
    rw (uleb_at-outside bytes offset h) refl in
    rw (items_from-step _ _ (declaration_at-advances budget bytes) [] offset, none) refl
