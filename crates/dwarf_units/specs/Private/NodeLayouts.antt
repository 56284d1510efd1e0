-- The layouts of nodes of a fixed size: their shapes, and the slots of their used attributes.
use Rattle.dwarf_bytes.specs.declared.format.Format.{Format}
use Rattle.dwarf_forms.specs.Declarations.{Declaration}
use Rattle.dwarf_units.specs.{AbbreviationTables.Table, Entries.declaration_of}
use Rattle.dwarf_units.specs.NodeShapes.{shape_at, shape_of, shape_of_code}
use Rattle.dwarf_units.specs.{Private.Slots.used_in, StoredAttributes.used_attributes_at}
use Rattle.dwarf_units.specs.declared.node_layout.NodeLayout.{NodeLayout}
use Rattle.dwarf_units.specs.declared.value_slot.ValueSlots.{ValueSlots}
use Rattle.std.specs.Prelude.{IfSome, List, Ok, Option, Some, drop, length, option_map, slice_get}
use Rattle.std.specs.Prelude.{true, ℕ, ◌+◌, ◌≡◌, ◌≤◌}

-- The slots have the used attributes of each entry of a declaration that is not truncated.
abbrev pub HasUsed : Format → Declaration → ℕ → ValueSlots → Type 0
HasUsed format d len slots = (bytes : List ℕ) (first : ℕ) → first + len ≤ length bytes
    → used_attributes_at true format d.attributes bytes first
    ≡ Ok (used_in slots (drop first bytes), first + len)

-- The layout has the shape of the entries of a declaration, and may have slots for them.
pub record IsLayoutOf (format : Format) (d : Declaration) (layout : Option NodeLayout) : Type 0
  where
    pub shape : option_map (λ l. l.shape) layout ≡ shape_of format d
    pub slots : IfSome layout (λ l. IfSome l.slots (HasUsed format d l.shape.len))

-- The layout is that of the entries of a code.
abbrev pub HasSlotsOf : Format → List Declaration → ℕ → NodeLayout → Type 0
HasSlotsOf format table code l = IfSome l.slots (λ slots. (d : Declaration)
    × (declaration_of table code ≡ Some d) × (d.tag ≡ l.shape.tag)
    × HasUsed format d l.shape.len slots)

pub record IsLayoutOfCode (format : Format) (table : List Declaration) (code : ℕ)
    (layout : Option NodeLayout) : Type 0 where
  pub shape : option_map (λ l. l.shape) layout ≡ shape_of_code format table code
  pub slots : IfSome layout (HasSlotsOf format table code)

-- The list has the layouts of the first codes, from 0 on.
pub record AreLayouts (format : Format) (table : List Declaration) (count : ℕ)
    (layouts : List (Option NodeLayout)) : Type 0 where
  pub len : length layouts ≡ count
  pub each : (code : ℕ) (layout : Option NodeLayout) → slice_get layouts code ≡ Some layout
      → IsLayoutOfCode format table code layout

-- The layout of the nodes with a code, if it is precomputed.
pub record IsLayoutAt (table : Table) (code : ℕ) (layout : Option NodeLayout) : Type 0 where
  pub shape : option_map (λ l. l.shape) layout ≡ shape_at table code
  pub slots : IfSome layout (HasSlotsOf table.format table.declarations code)
