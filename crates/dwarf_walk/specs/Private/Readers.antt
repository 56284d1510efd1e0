-- The effect of each step of the walk, for the contracts of its parts.
use Rattle.std.specs.Prelude.{◌≡◌, ℕ, ◌+◌, ◌-◌, List, [], ◌∷◌, ◌++◌, Bool, Option, Some, None}
use Rattle.std.specs.Prelude.{suc, zero}
use Rattle.std.specs.{Prelude.{is_some, Result, Ok, Err, if◌then◌else◌, take}, List.filter_map}
use Rattle.dwarf_bytes.specs.{declared.fault.Cause.Cause, declared.format.Format.Format, Bind.◌>>=◌}
use Rattle.dwarf_bytes.specs.{Items.{At, items_from}, Position.Position, Refusals.Fails}
use Rattle.dwarf_forms.specs.Declarations.{Declaration}
use Rattle.dwarf_units.specs.Entries.{Die, Entry, LocatedNode, Node, Null, depth_after, die_of}
use Rattle.dwarf_units.specs.{Entries.{node_at, node_at_depth}, StoredAttributes.stored_attributes}
use Rattle.dwarf_units.specs.{Used.{Used, used_among}, declared.attributes.Attribute.Attribute}
use Rattle.dwarf_units.specs.declared.unit_headers.UnitHeader.{UnitHeader}
use Rattle.dwarf_walk.specs.declared.walk.{Depths.Depths, NodeHead.NodeHead, Walk.Walk}
use Rattle.dwarf_walk.specs.declared.descendants.WalkedScope.{WalkedScope}
use Rattle.dwarf_walk.specs.declared.unit_entries.RootEntry.{RootEntry}
use Rattle.dwarf_walk.specs.declared.entry_bitmap.EntryBitmap.{EntryBitmap}
use Rattle.dwarf_walk.specs.Private.WalkedScopes.{walked_scope, walked_scopes, least_after_entry}
use Rattle.dwarf_walk.specs.{Private.WalkedScopes.least_after, Stored.{root_entry, root_in}}
use Rattle.dwarf_walk.specs.{References.or_else, EntryBitmap.AddsOffsets}

-- An entry with an offset and attributes. Its tag and its depth are irrelevant.
abbrev pub die_with : ℕ → List Attribute → Die
die_with offset attributes = record { offset = offset; depth = 0; tag = 0; attributes = attributes }

-- An entry with the tag of its declaration and its attributes, or a null entry.
abbrev pub node_of : Option NodeHead → List Attribute → Node
node_of (Some head) attributes = Entry head.tag head.children attributes
node_of None attributes = Null

-- The stored attributes are the used ones of the entry, or none if `keep` is false. Nothing is
-- required for a null entry.
abbrev pub HasStored : Bool → Option NodeHead → Used → List Attribute → Type 0
HasStored keep (Some head) used all = used ≡ used_among (stored_attributes keep all)
HasStored keep None used all = Unit {0}

-- A step returns the node that is read, and its used attributes are stored if `keep` is set. The
-- cursor is after the node. The call may also fail because memory ran out.
abbrev pub ReadsNode : Bool → Result (Option NodeHead) Cause → Used
    → (List ℕ → ℕ → Result (Node × ℕ) Cause) → Position → Position → Type 0
ReadsNode keep (Ok found) used read old new =
    ((all : List Attribute) × (read old.bytes old.place ≡ Ok (node_of found all, new.place))
    × HasStored keep found used all) × (new.bytes ≡ old.bytes)
ReadsNode keep (Err cause) used read old new = Fails cause (read old.bytes old.place)

-- The data stored for the entries so far, and the depth after them.
pub record WalkState : Type 0 where
  pub depth : ℕ
  pub root : Option RootEntry
  pub scopes : List WalkedScope
  pub least : ℕ

-- The state after a list of entries.
abbrev pub state_after_entries : ℕ → List Die → WalkState
state_after_entries depth dies = record {
  depth = depth;
  root = root_in dies;
  scopes = walked_scopes 0 dies;
  least = least_after 0 dies;
}

-- The state after a list of nodes.
abbrev pub state_after : List LocatedNode → WalkState
state_after before = state_after_entries (depth_after before) (filter_map die_of before)

-- The state of the program.
abbrev pub state_of : Walk → Depths → WalkState
state_of w depths = record {
  depth = depths.next;
  root = w.root;
  scopes = w.scopes.items;
  least = depths.least;
}

-- The state after one more entry.
abbrev pub after_die : WalkState → Die → WalkState
after_die w die = record {
  depth = w.depth;
  root = or_else w.root (Some (root_entry die));
  scopes = w.scopes ++ walked_scope w.least die;
  least = least_after_entry w.least die;
}

-- An entry with an offset, a tag and attributes, at the depth of the walk.
abbrev pub die_at : WalkState → ℕ → ℕ → List Attribute → Die
die_at w offset tag attributes =
    record { offset = offset; depth = w.depth; tag = tag; attributes = attributes }

-- The state after one more entry, ignoring its attributes. The root is unchanged.
abbrev pub after_scope : WalkState → ℕ → ℕ → WalkState
after_scope w offset tag = record (after_die w (die_at w offset tag [])) { root = w.root }

-- The state is the one after one more entry with an offset and a tag, for any attributes with
-- these used ones.
abbrev pub IsAfterEntry : WalkState → WalkState → ℕ → ℕ → Used → Type 0
IsAfterEntry w next at tag used = (attributes : List Attribute) → used ≡ used_among attributes
    → next ≡ after_die w (die_at w at tag attributes)

-- The depth after an entry, which may start a list of children.
abbrev pub depth_after_entry : Bool → ℕ → ℕ
depth_after_entry children depth = if children then depth + 1 else depth

-- The state after one more entry or null entry at an offset.
abbrev pub after_node : WalkState → ℕ → Node → WalkState
after_node w at (Entry tag children attributes) =
    record (after_die w (die_at w at tag attributes))
    { depth = depth_after_entry children w.depth }
after_node w at Null = record w { depth = w.depth - 1 }

-- The offset of an entry. A null entry has none.
abbrev pub places_of : ℕ → Node → List ℕ
places_of at (Entry tag children attributes) = at ∷ []
places_of at Null = []

-- The node at an offset is added: the state is updated, and the bit of an entry is set.
abbrev pub AddsNode : ℕ → Node → WalkState → WalkState → EntryBitmap → EntryBitmap → Type 0
AddsNode at node old new bitmap marked =
    (new ≡ after_node old at node) × AddsOffsets bitmap marked (places_of at node)

-- A call reads and adds the node at an offset of a unit, and returns the offset after the node. It
-- may also fail because memory ran out.
abbrev pub Takes : Format → List Declaration → List ℕ → ℕ → WalkState → WalkState → EntryBitmap
    → EntryBitmap → Result ℕ Cause → Type 0
Takes format table unit at old new bitmap marked (Ok after) = (node : Node)
    × (node_at_depth format table old.depth (is_some old.root) unit at ≡ Ok (node, after))
    × AddsNode at node old new bitmap marked
Takes format table unit at old new bitmap marked (Err cause) =
    Fails cause (node_at_depth format table old.depth (is_some old.root) unit at)

-- The same for a call that also returns the depths after the node.
abbrev pub Steps : Format → List Declaration → List ℕ → ℕ → WalkState → Walk → EntryBitmap
    → EntryBitmap → Result (ℕ × Depths) Cause → Type 0
Steps format table unit at old walk bitmap marked (Ok next) =
    Takes format table unit at old (state_of walk next.1) bitmap marked (Ok next.0)
Steps format table unit at old walk bitmap marked (Err cause) =
    Takes format table unit at old old bitmap marked (Err cause)

-- A call reads and adds this number of nodes from an offset of a unit on, up to the offset `after`.
unfoldable pub TakesNodes : ℕ → Format → List Declaration → List ℕ → ℕ → WalkState → EntryBitmap → ℕ
    → WalkState → EntryBitmap → Type 0
TakesNodes zero format table unit at old bitmap after new marked =
    (after ≡ at) × (new ≡ old) × (marked ≡ bitmap)
TakesNodes (suc count) format table unit at old bitmap after new marked = (last : ℕ)
    × (w : WalkState) × (b : EntryBitmap)
    × TakesNodes count format table unit at old bitmap last w b
    × Takes format table unit last w new b marked (Ok after)

-- All nodes of a unit.
abbrev pub nodes_of : List ℕ → UnitHeader → List Declaration → Result (List LocatedNode × ℕ) At
nodes_of info header table =
    items_from header.end (node_at header.format table (take header.end info)) [] header.first

-- The state after all nodes of a unit.
abbrev pub walk_of : List ℕ → UnitHeader → List Declaration → Result WalkState At
walk_of info header table = do
  all ← nodes_of info header table
  Ok (state_after all.0)
