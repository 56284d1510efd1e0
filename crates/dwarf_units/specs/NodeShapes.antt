-- Nodes of a fixed size: null entries, and entries whose attributes all have a fixed size. Nodes
-- with the same code have the same shape.
use Rattle.abbreviation_memo.specs.declared.list_end.TheConstants.{UNSHARED}
use Rattle.dwarf_bytes.specs.declared.format.Format.{Format}
use Rattle.dwarf_forms.specs.Declarations.{Declaration}
use Rattle.dwarf_units.specs.{AbbreviationTables.Table, Entries.{Entry, Node, Null, declaration_of}}
use Rattle.dwarf_units.specs.{Entries.{depth_limit, node_at_depth}, Private.Runs.fixed_size}
use Rattle.dwarf_units.specs.{Private.Runs.runs_of, declared.node_layout.NodeShape.NodeShape}
use Rattle.std.specs.Prelude.{List, None, Ok, Option, Some, false, if◌then◌else◌, length, min}
use Rattle.std.specs.Prelude.{nat_lt, option_and_then, option_map, slice_get, true, ℕ, ◌+◌, ◌&&◌}
use Rattle.std.specs.Prelude.{◌%◌, ◌*◌, ◌==◌, ◌^◌, ◌||◌, ◌≡◌}

-- The shape of a null entry.
abbrev pub null_shape : NodeShape
null_shape = record { is_null = true; tag = 0; children = false; len = 0 }

-- The node has this shape.
abbrev pub HasShape : NodeShape → Node → Type 0
HasShape shape Null = shape ≡ null_shape
HasShape shape (Entry tag children attributes) =
    (shape.is_null ≡ false) × (shape.tag ≡ tag) × (shape.children ≡ children)

-- The shape of the entries of a declaration, if their size is fixed. A declaration with UNSHARED
-- attributes or more may share some.
abbrev pub shape_of : Format → Declaration → Option NodeShape
shape_of format d = if nat_lt (length d.attributes) UNSHARED && nat_lt d.tag (2 ^ 32)
    then option_map (λ len. record {
      is_null = false;
      tag = d.tag;
      children = d.children;
      len = len;
    }) (fixed_size (runs_of format d.attributes)) else None

-- The shape of the nodes with a code.
abbrev pub shape_of_code : Format → List Declaration → ℕ → Option NodeShape
shape_of_code format table code = if code == 0 then Some null_shape
    else option_and_then (shape_of format) (declaration_of table code)

-- The greatest code whose shape is precomputed.
abbrev pub code_limit : ℕ
code_limit = 511

-- The number of codes, from 0 on, whose shapes are precomputed: those up to the number of
-- declarations and the limit.
abbrev pub code_count : {D : Type 0} → List D → ℕ
code_count declarations = min (length declarations) code_limit + 1

-- The shape of the nodes with a code, if it is precomputed.
abbrev pub shape_at : Table → ℕ → Option NodeShape
shape_at table code = if nat_lt code (code_count table.declarations)
    then shape_of_code table.format table.declarations code else None

-- The code at an offset and the offset after it, if the code takes at most two bytes (ULEB128).
abbrev pub short_code_at : List ℕ → ℕ → Option (ℕ × ℕ)
short_code_at bytes at = option_and_then (λ low. if nat_lt low 128 then Some (low, at + 1) else
    option_and_then (λ high. if nat_lt high 128 then Some (low % 128 + 128 * high, at + 2) else
    None) (slice_get bytes (at + 1))) (slice_get bytes at)

-- The shape of the node at an offset of a unit and the offset after the node, if the shape is
-- precomputed, its code is short, the node is at a depth below the root, and it is not truncated.
unfoldable pub fixed_size_node_at : Table → ℕ → List ℕ → ℕ → Option (NodeShape × ℕ)
fixed_size_node_at table depth unit at =
    if (depth == 0) || nat_lt depth_limit depth then None else
    option_and_then (λ code. option_and_then (λ shape.
    if nat_lt (length unit) (code.1 + shape.len) then None else Some (shape, code.1 + shape.len))
    (shape_at table code.0)) (short_code_at unit at)

-- A node of this shape is at the offset, at this depth and after the root, and ends at the returned
-- offset.
abbrev pub IsFixedSizeNode : Table → ℕ → List ℕ → ℕ → NodeShape × ℕ → Type 0
IsFixedSizeNode table depth unit at found = (node : Node)
    × (node_at_depth table.format table.declarations depth true unit at ≡ Ok (node, found.1))
    × HasShape found.0 node
