-- The walk over the entries of a unit: what it has read, and the depth that it is at.
use Rattle.std.specs.Prelude.{ℕ, ◌+◌, ◌-◌, List, [], ◌∷◌, ◌++◌, Bool, Option, Some, None}
use Rattle.std.specs.{Prelude.{Result, Ok, ◌==◌, if◌then◌else◌, take}, List.filter_map}
use Rattle.dwarf_bytes.specs.{Bind.◌>>=◌, Items.{At, items_from}}
use Rattle.dwarf_forms.specs.Declarations.{Declaration}
use Rattle.dwarf_units.specs.Entries.{Node, Entry, Null, Die, LocatedNode, depth_after, die_of}
use Rattle.dwarf_units.specs.{Entries.node_at, declared.unit_headers.UnitHeader.UnitHeader}
use Rattle.plain_scopes.specs.declared.entries.Entry.{Entry as Parsed}
use Rattle.plain_scopes.specs.declared.entries.UnitWalk.{UnitWalk}
unfoldable pub use Rattle.dwarf_units.specs.Entries.{attributes_at}

-- An entry of the program, or a null entry.
abbrev pub node_of : Option Parsed → Node
node_of None = Null
node_of (Some entry) = Entry entry.tag entry.children entry.attributes.items

-- The entries that are read, and the depth of the next one.
pub record WalkState : Type 0 where
  pub depth : ℕ
  pub dies : List Die

abbrev pub state_of : UnitWalk → WalkState
state_of walk = record { depth = walk.depth; dies = walk.dies.items }

-- Whether an entry is at depth 0.
abbrev pub is_top : Die → Bool
is_top die = die.depth == 0

-- The state after one more entry or null entry, at an offset.
abbrev pub after_node : WalkState → ℕ → Node → WalkState
after_node walk offset Null = record { depth = walk.depth - 1; dies = walk.dies }
after_node walk offset (Entry tag children attributes) = record {
  depth = walk.depth + (if children then 1 else 0);
  dies = walk.dies ++ record {
    offset = offset;
    depth = walk.depth;
    tag = tag;
    attributes = attributes;
  } ∷ [];
}

abbrev pub state_after : List LocatedNode → WalkState
state_after nodes = record { depth = depth_after nodes; dies = filter_map die_of nodes }

-- The state after all nodes of a unit.
unfoldable pub walk_of : List ℕ → UnitHeader → List Declaration → Result WalkState At
walk_of info header table =
    items_from header.end (node_at header.format table (take header.end info)) [] header.first
    >>= λ all. Ok (state_after all.0)
