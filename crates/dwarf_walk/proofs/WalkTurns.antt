-- The loop of the walk over a unit.
use Rattle.std.proofs.Common.{Err, List, None, Ok, Result, Some, [], ap, arith, cond, count_by}
use Rattle.std.proofs.Common.{false, is_some, length, length-take, nat_le, refl, suc, sym, take}
use Rattle.std.proofs.{Common.{zero, ℕ, ◌++◌, ◌<◌, ◌∙◌, ◌∷◌, ◌≡◌, ◌≤◌, ◌⊎◌}, lemmas.Bool.le-leb}
use Rattle.std.proofs.lemmas.{Bool.lt-leb, Grind.common_steps, List.Elements.filter_map-append}
use Rattle.std.proofs.lemmas.List.{Folds.list_any-append, Sums.sum_by-append, map-append}
use Rattle.std.specs.List.{filter_map, list_any}
use Rattle.dwarf_bytes.proofs.Items.Turns.{SoFar, so-far-end, so-far-fault, so-far-item}
use Rattle.dwarf_bytes.{proofs.Numbers.Moves.same-ok, specs.{Bind.◌>>=◌, Items.{Advances, At, End}}}
use Rattle.dwarf_bytes.specs.{Items.{Item, Next}, Refusals.{Fails, at_item, in_section}}
use Rattle.dwarf_bytes.specs.{Refusals.memory_fault, declared.fault.Cause.Cause}
use Rattle.dwarf_bytes.specs.declared.{fault.LoadFault.LoadFault, format.Format.Format}
use Rattle.dwarf_forms.specs.Declarations.{Declaration}
use Rattle.dwarf_units.proofs.EntryAdvances.{node_at-advances, node_at_depth-moves}
use Rattle.dwarf_units.specs.Entries.{Die, LocatedNode, Node, closes, depth_after, die_of, is_root}
use Rattle.dwarf_units.specs.Entries.{node_at, node_at_depth, opens}
use Rattle.dwarf_units.specs.declared.unit_headers.UnitHeader.{UnitHeader}
use Rattle.dwarf_walk.proofs.{BitmapLaws.adds-more, ScopeLaws.{are-bounded, least-push}}
use Rattle.dwarf_walk.{proofs.ScopeLaws.walked-push, specs.EntryBitmap.{AddsOffsets, offsets_of}}
use Rattle.dwarf_walk.specs.Private.Readers.{Takes, TakesNodes, WalkState, after_node, nodes_of}
use Rattle.dwarf_walk.specs.Private.Readers.{places_of, state_after, walk_of}
use Rattle.dwarf_walk.specs.{Private.WalkedScopes.AreBounded, References.or_else, Stored.root_entry}
use Rattle.dwarf_walk.specs.{Stored.root_in, declared.entry_bitmap.EntryBitmap.EntryBitmap}
use Rattle.dwarf_bytes.specs.declared.fault.Section.TheVariants as sections

-- The node at an offset, after a list of nodes.
abbrev standing : List LocatedNode → ℕ → Node → LocatedNode
standing before at node = record { offset = at; depth = depth_after before; node = node }

root_in-push : (dies : List Die) (die : Die)
    → root_in (dies ++ die ∷ []) ≡ or_else (root_in dies) (Some (root_entry die))
root_in-push dies die = grind arith

-- The nodes read so far close at most as many lists of children as they open. They contain a root
-- if they contain an entry. Without an entry, the depth is 0.
pub record IsTree (before : List LocatedNode) : Type 0 where
  pub closed : count_by closes before ≤ count_by opens before
  pub rooted : list_any is_root before ≡ is_some (root_in (filter_map die_of before))
  pub outside : root_in (filter_map die_of before) ≡ None → depth_after before ≡ 0

-- One more entry or null entry: the state, the offsets of the entries, and the tree.
node-push : (before : List LocatedNode) (at : ℕ) (node : Node) → IsTree before
    → (let all = before ++ standing before at node ∷ [] in
    (after_node (state_after before) at node ≡ state_after all)
    × (offsets_of (filter_map die_of before) ++ places_of at node
    ≡ offsets_of (filter_map die_of all)) × IsTree all)
node-push before at node tree =
    let x : LocatedNode = standing before at node in
    let dies = filter_map-append die_of before (x ∷ []) in
    let opened = sum_by-append (λ y. cond (opens y) 1 0) before (x ∷ []) in
    let closed = sum_by-append (λ y. cond (closes y) 1 0) before (x ∷ []) in
    let root = root_in-push (filter_map die_of before) in
    let scopes = walked-push 0 (filter_map die_of before) in
    let least = least-push 0 (filter_map die_of before) in
    let roots = list_any-append is_root before (x ∷ []) in
    let offsets = map-append (λ (d : Die). d.offset) (filter_map die_of before) in (
      grind (arith, common_steps, opened, closed, tree.closed, dies, root, scopes, least),
      grind (arith, common_steps, dies, offsets),
      record {
        closed = grind (arith, opened, closed, tree.closed);
        rooted = grind (arith, common_steps, roots, tree.rooted, tree.outside, dies, root);
        outside = λ none. grind (arith, common_steps, opened, closed, tree, dies, root);
      },
    )

-- The walk over a unit. `old` is the bitmap before it.
module _ (info : List ℕ) (header : UnitHeader) (table : List Declaration) (old : EntryBitmap) where
  abbrev unit : List ℕ
  unit = take header.end info

  abbrev read_after : List LocatedNode → ℕ → Result (Next LocatedNode) Cause
  read_after = node_at header.format table unit

  -- The loop invariant: the state of the loop is that of the nodes read so far.
  pub record WalkSoFar (marked : EntryBitmap) (place : ℕ) (w : WalkState) : Type 0 where
    pub before : List LocatedNode
    pub marked_so : AddsOffsets old marked (offsets_of (filter_map die_of before))
    pub kept : w ≡ state_after before
    pub tree : IsTree before
    pub read : SoFar header.end read_after header.first before place

  -- No node extends beyond the end of the unit, wherever the section ends.
  advances : Advances header.end read_after
  advances before at x after h =
      let moved = node_at-advances header.format table unit before at x after h in
      (moved.0, omega (arith, moved.1, length-take header.end info))

  -- The node that a step reads is the next one.
  next-is : {format : Format} {bytes : List ℕ} {marked : EntryBitmap} {at : ℕ} {w : WalkState}
      → format ≡ header.format → bytes ≡ unit → at < length bytes
      → (so_far : WalkSoFar marked at w) (x : Result (Node × ℕ) Cause)
      → node_at_depth format table w.depth (is_some w.root) bytes at ≡ x
      → read_after so_far.before at
      ≡ (x >>= λ node. Ok (Item (standing so_far.before at node.0) node.1))
  next-is {bytes} {at} format_is same within so_far x is =
      let test : nat_le (length unit) at ≡ false =
      lt-leb (length unit) at (rw (← same) within) in
      rw (test, so_far.tree.rooted, rw (so_far.kept, format_is, same) at is) refl

  -- An iteration that reads a node.
  pub walk-item : {format : Format} {bytes : List ℕ} {marked after : EntryBitmap} {at next : ℕ}
      {was is : WalkState} → format ≡ header.format → bytes ≡ unit → at < length bytes
      → WalkSoFar marked at was → Takes format table bytes at was is marked after (Ok next)
      → (at < next) × (next ≤ length bytes) × WalkSoFar after next is
  walk-item {format} {bytes} {marked} {after} {at} {next} {was} format_is same within so_far taken =
      let before = so_far.before in
      let moved = node_at_depth-moves format table was.depth (is_some was.root) bytes at
      (taken.0, next) taken.1 in
      let pushed = node-push before at taken.0 so_far.tree in (
        moved.0,
        moved.1,
        record {
          before = before ++ standing before at taken.0 ∷ [];
          marked_so =
              rw (← pushed.1) (adds-more old marked after _ _ so_far.marked_so taken.2.1);
          kept = rw so_far.kept at taken.2.0 ∙ pushed.0;
          tree = pushed.2;
          read = so-far-item header.end read_after advances header.first before at _ next
              so_far.read (next-is format_is same within so_far (Ok (taken.0, next)) taken.1);
        },
      )

  -- Nodes that are read in a loop of their own.
  pub walk-items : {format : Format} {bytes : List ℕ} {marked after : EntryBitmap} {at next : ℕ}
      {was is : WalkState} (count : ℕ) → format ≡ header.format → bytes ≡ unit
      → WalkSoFar marked at was
      → TakesNodes count format table bytes at was marked next is after
      → (at ≤ next) × WalkSoFar after next is
  unfolding TakesNodes
  walk-items zero format_is same so_far (to, kept, stays) =
      rw (to, kept, stays) (omega arith, so_far)
  walk-items {format} {bytes} (suc count) format_is same so_far (last, w, b, before, taken) =
      let here = walk-items count format_is same so_far before in
      let moved = node_at_depth-moves format table w.depth (is_some w.root) bytes last
      (taken.0, _) taken.1 in (
        omega (arith, here.0, moved.0),
        (walk-item format_is same (omega (arith, moved.0, moved.1)) here.1 taken).2,
      )

  -- The end of the loop: all nodes are read, and the bits of all entries are set.
  pub walk-end : {bytes : List ℕ} {marked : EntryBitmap} {place : ℕ} {w : WalkState}
      → bytes ≡ unit → length bytes ≤ place → WalkSoFar marked place w
      → (in_section sections.DebugInfo (walk_of info header table) ≡ Ok w)
      × ((all : List LocatedNode × ℕ) → nodes_of info header table ≡ Ok all
      → AddsOffsets old marked (offsets_of (filter_map die_of all.0)))
  walk-end {place} same past so_far =
      let end : read_after so_far.before place ≡ Ok (End place) =
      rw (le-leb (length unit) place (rw (← same) past)) refl in
      let whole = so-far-end header.end read_after advances header.first so_far.before place place
      so_far.read end in (
        rw whole (ap (λ (x : WalkState). Ok x) (sym so_far.kept)),
        λ all is. rw (same-ok _ _ (sym is ∙ whole)) so_far.marked_so,
      )

  -- An iteration that fails.
  pub walk-fault : {format : Format} {bytes : List ℕ} {marked : EntryBitmap} {at : ℕ}
      {w : WalkState} {cause : Cause} {fault : LoadFault} → format ≡ header.format → bytes ≡ unit
      → at < length bytes → WalkSoFar marked at w
      → Fails cause (node_at_depth format table w.depth (is_some w.root) bytes at)
      → fault ≡ at_item sections.DebugInfo cause at
      → (fault ≡ memory_fault) ⊎ (in_section sections.DebugInfo (walk_of info header table)
      ≡ Err fault)
  walk-fault {at} {cause} format_is same within so_far fails is =
      let here = λ (read : _). so-far-fault header.end read_after advances header.first
      so_far.before at cause so_far.read
      (next-is format_is same within so_far (Err cause) read) in
      grind (arith, fails, is)

-- The scopes of a walk are bounded.
pub walk-bounded : (nodes : Result (List LocatedNode × ℕ) At) (w : WalkState)
    → in_section sections.DebugInfo (nodes >>= λ all. Ok (state_after all.0)) ≡ Ok w
    → AreBounded w.scopes
walk-bounded (Err e) w h = cc
walk-bounded (Ok all) w h =
    rw (← same-ok (state_after all.0) w h) (are-bounded 0 (filter_map die_of all.0))
