-- The iterations of the loop over the entries of a unit.
use Rattle.std.proofs.Common.{◌≡◌, ℕ, ◌<◌, ◌≤◌, ◌⊎◌, List, [], ◌∷◌, ◌++◌, length, take, refl, arith}
use Rattle.std.proofs.Common.{ap, sym, ◌∙◌, length-take, Result, Ok, Err, nat_le, false, cond}
use Rattle.std.proofs.Common.{count_by, option_to_list}
use Rattle.std.proofs.lemmas.{Bool.{lt-leb, le-leb}, Grind.common_steps, List.Sums.sum_by-append}
use Rattle.std.proofs.lemmas.List.Elements.{filter_map-append}
use Rattle.std.specs.List.{filter_map, list_any}
use Rattle.dwarf_bytes.specs.{Bind.◌>>=◌, Items.{Next, Item, End, Advances}}
use Rattle.dwarf_bytes.specs.Refusals.{memory_fault, at_item, in_section, Fails}
use Rattle.dwarf_bytes.specs.{declared.fault.Cause.Cause, declared.fault.LoadFault.LoadFault}
use Rattle.dwarf_bytes.proofs.Items.Turns.{SoFar, so-far-none, so-far-item, so-far-end}
use Rattle.dwarf_bytes.proofs.Items.Turns.{so-far-fault}
use Rattle.dwarf_forms.specs.Declarations.{Declaration}
use Rattle.dwarf_units.specs.Entries.{Node, LocatedNode, die_of, die_in, node_at_depth, node_at}
use Rattle.dwarf_units.specs.Entries.{opens, closes, is_root, depth_after}
use Rattle.dwarf_units.specs.declared.unit_headers.UnitHeader.{UnitHeader}
use Rattle.dwarf_units.proofs.EntryAdvances.{node_at_depth-moves, node_at-advances}
use Rattle.plain_scopes.specs.Walk.{WalkState, is_top, after_node, state_after, walk_of}
use Rattle.dwarf_bytes.specs.declared.fault.Section.TheVariants as sections

-- The node at an offset, after a list of nodes.
abbrev located : List LocatedNode → ℕ → Node → LocatedNode
located before at node = record { offset = at; depth = depth_after before; node = node }

rooted-is : (before : List LocatedNode)
    → list_any is_root before ≡ list_any is_top (filter_map die_of before)
rooted-is [] = refl
rooted-is (x ∷ before) = let rest = rooted-is before in grind (arith, common_steps)

-- One more entry or null entry: the state, and that no more lists are closed than opened.
node-push : (before : List LocatedNode) (at : ℕ) (node : Node)
    → count_by closes before ≤ count_by opens before
    → (let all = before ++ located before at node ∷ [] in
    (after_node (state_after before) at node ≡ state_after all)
    × (count_by closes all ≤ count_by opens all))
node-push before at node closed =
    let x : LocatedNode = located before at node in
    let dies : filter_map die_of (before ++ x ∷ [])
    ≡ filter_map die_of before ++ option_to_list (die_in at (depth_after before) node) =
    grind (arith, filter_map-append die_of before (x ∷ [])) in
    let opened = sum_by-append (λ y. cond (opens y) 1 0) before (x ∷ []) in
    let shut = sum_by-append (λ y. cond (closes y) 1 0) before (x ∷ []) in (
      grind (arith, common_steps, opened, shut, closed, dies),
      grind (arith, opened, shut, closed),
    )

module _ (info : List ℕ) (header : UnitHeader) (table : List Declaration) where
  abbrev unit : List ℕ
  unit = take header.end info

  abbrev read_after : List LocatedNode → ℕ → Result (Next LocatedNode) Cause
  read_after = node_at header.format table unit

  -- The state of the loop is that of the nodes read so far.
  pub record WalkSoFar (place : ℕ) (w : WalkState) : Type 0 where
    pub before : List LocatedNode
    pub state_is : w ≡ state_after before
    pub closed : count_by closes before ≤ count_by opens before
    pub read : SoFar header.end read_after header.first before place

  pub walk-none : {w : WalkState} → w ≡ record { depth = 0; dies = [] } → WalkSoFar header.first w
  walk-none is = record {
    before = [];
    state_is = is;
    closed = omega arith;
    read = so-far-none header.end read_after header.first;
  }

  advances : Advances header.end read_after
  advances before at x after h =
      let moved = node_at-advances header.format table unit before at x after h in
      (moved.0, omega (arith, moved.1, length-take header.end info))

  module _ {bytes : List ℕ} {at : ℕ} {w : WalkState} (same : bytes ≡ unit) (so_far : WalkSoFar at w)
    where
      next-is : at < length bytes → (x : Result (Node × ℕ) Cause)
          → node_at_depth header.format table w.depth (list_any is_top w.dies) bytes at ≡ x
          → read_after so_far.before at
          ≡ (x >>= λ node. Ok (Item (located so_far.before at node.0) node.1))
      next-is within x is =
          let test : nat_le (length unit) at ≡ false =
          lt-leb (length unit) at (rw (← same) within) in
          rw (test, rooted-is so_far.before, rw (so_far.state_is, same) at is) refl

      -- An iteration that reads a node.
      pub walk-item : {next : ℕ} {after : WalkState} {node : Node} → at < length bytes
          → node_at_depth header.format table w.depth (list_any is_top w.dies) bytes at
          ≡ Ok (node, next) → after ≡ after_node w at node
          → (at < next) × (next ≤ length bytes) × WalkSoFar next after
      walk-item {next} {after} {node} within read is =
          let before = so_far.before in
          let moved = node_at_depth-moves header.format table w.depth (list_any is_top w.dies)
          bytes at (node, next) read in
          let pushed = node-push before at node so_far.closed in (
            moved.0,
            moved.1,
            record {
              before = before ++ located before at node ∷ [];
              state_is = rw so_far.state_is at is ∙ pushed.0;
              closed = pushed.1;
              read = so-far-item header.end read_after advances header.first before at _ next
                  so_far.read (next-is within (Ok (node, next)) read);
            },
          )

      -- The end of the loop.
      pub walk-end : length bytes ≤ at
          → in_section sections.DebugInfo (walk_of info header table) ≡ Ok w
      unfolding walk_of
      walk-end past =
          let end : read_after so_far.before at ≡ Ok (End at) =
          rw (le-leb (length unit) at (rw (← same) past)) refl in
          let whole = so-far-end header.end read_after advances header.first so_far.before at at
          so_far.read end in
          rw whole (ap (λ (x : WalkState). Ok x) (sym so_far.state_is))

      -- An iteration that fails.
      pub walk-fault : {cause : Cause} {fault : LoadFault} → at < length bytes
          → Fails cause
          (node_at_depth header.format table w.depth (list_any is_top w.dies) bytes at)
          → fault ≡ at_item sections.DebugInfo cause at
          → (fault ≡ memory_fault) ⊎ (in_section sections.DebugInfo (walk_of info header table)
          ≡ Err fault)
      unfolding walk_of
      walk-fault {cause} within fails is =
          let here = λ (read : _). so-far-fault header.end read_after advances header.first
          so_far.before at cause so_far.read (next-is within (Err cause) read) in
          grind (arith, fails, is)
