-- Debugging information entries (DWARF 5, 2.1 to 2.3, 7.5.2 and 7.5.3), as a flat list of entries
-- and null entries.
use Rattle.std.specs.Prelude.{◌≡◌, ℕ, ◌-◌, ◌<◌, ◌≤◌, List, [], ◌∷◌, length, take, Bool, true, false}
use Rattle.std.specs.Prelude.{Option, Some, None, Result, Ok, Err, nat_lt, nat_le, ◌==◌, not, ◌&&◌}
use Rattle.std.specs.Prelude.{if◌then◌else◌, find, count_by, take_while, ok_or, option_map}
use Rattle.std.specs.{Prelude.slice_index_or, List.{list_any, filter_map}}
use Rattle.dwarf_bytes.specs.declared.constants.TheConstants.{DW_FORM_INDIRECT}
use Rattle.dwarf_bytes.specs.{declared.fault.Cause.Cause, declared.format.Format.Format}
use Rattle.dwarf_bytes.specs.{declared.form.Form.Form, declared.form.Form.TheVariants.Direct}
use Rattle.dwarf_bytes.specs.{declared.form.Form.TheVariants.{ImplicitConst, Indirect}, Bind.◌>>=◌}
use Rattle.dwarf_bytes.specs.{Forms.form_of, Items.{Next, Item, End, At, reading, refuse_if}}
use Rattle.dwarf_bytes.specs.{Items.{with_offset, items_from}, Numbers.uleb_at, Words.cause_of}
use Rattle.dwarf_forms.specs.declared.values.ValueFault.{ValueFault}
use Rattle.dwarf_forms.specs.declared.attribute.AttributeSpecification.{AttributeSpecification}
use Rattle.dwarf_forms.specs.{Declarations.Declaration, Values.value_at}
use Rattle.dwarf_units.specs.declared.unit_headers.UnitHeader.{UnitHeader}
use Rattle.dwarf_units.specs.declared.attributes.AttributeValue.{AttributeValue}
use Rattle.dwarf_units.specs.{declared.attributes.Attribute.Attribute, Attributes.accepts}
use Rattle.dwarf_units.specs.Attributes.{is_negative_count, number_of}
use Rattle.dwarf_bytes.specs.declared.fault.Cause.TheVariants as causes
use Rattle.dwarf_forms.specs.declared.values.ValueFault.TheVariants as values

-- An entry (its tag, whether it has children, its attributes) or a null entry. The children of an
-- entry follow it, up to a null entry.
pub data Node : Type 0 where
  Entry : ℕ → Bool → List Attribute → Node
  Null : Node

-- An entry or null entry with its offset and depth.
pub record LocatedNode : Type 0 where
  pub offset : ℕ
  pub depth : ℕ
  pub node : Node

-- Whether a node starts a list of children (an entry with children), and whether it ends one (a
-- null entry).
abbrev pub opens_node : Node → Bool
opens_node (Entry tag children attributes) = children
opens_node Null = false

abbrev pub is_null_node : Node → Bool
is_null_node (Entry tag children attributes) = false
is_null_node Null = true

abbrev pub opens : LocatedNode → Bool
opens s = opens_node s.node

abbrev pub closes : LocatedNode → Bool
closes s = is_null_node s.node && nat_lt 0 s.depth

-- The depth after a list of nodes: the number of entries with children, less the number of null
-- entries at a depth above 0.
abbrev pub depth_after : List LocatedNode → ℕ
depth_after before = count_by opens before - count_by closes before

-- Every node of the list is at the depth after the nodes before it.
abbrev pub AreDepths : List LocatedNode → Type 0
AreDepths all = (i : ℕ) (d : LocatedNode) → i < length all
    → (slice_index_or all i d).depth ≡ depth_after (take i all)

-- Whether a node is the root of its unit: an entry at depth 0.
abbrev pub is_root : LocatedNode → Bool
is_root s = (s.depth == 0) && not (is_null_node s.node)

-- The maximum depth of an entry.
abbrev pub depth_limit : ℕ
depth_limit = 256

-- A value, with its fault converted to a cause.
abbrev pub reading_value : {X : Type 0} → Result X ValueFault → Result X Cause
reading_value (Ok x) = Ok x
reading_value (Err values.Form) = Err causes.Form
reading_value (Err (values.Read fault)) = Err (cause_of fault)

-- Whether a form is known and its value follows in the entry.
abbrev pub is_direct : Option Form → Bool
is_direct (Some (Direct layout)) = true
is_direct (Some ImplicitConst) = false
is_direct (Some Indirect) = false
is_direct None = false

-- The form of a value and the offset after it. DW_FORM_indirect has the form before the value.
abbrev pub form_at : ℕ → List ℕ → ℕ → Result (ℕ × ℕ) Cause
form_at form bytes at = if form == DW_FORM_INDIRECT then (do
  inner ← reading (uleb_at bytes at)
  _ ← refuse_if (not (is_direct (form_of inner.0))) causes.Form
  Ok inner) else Ok (form, at)

-- The attribute at an offset, as its specification declares it, and the offset after it.
abbrev pub attribute_at : Format → AttributeSpecification → List ℕ → ℕ
    → Result (Attribute × ℕ) Cause
attribute_at format s bytes at = do
  form ← form_at s.form bytes at
  _ ← refuse_if (not (accepts s.name form.0)) causes.AttrForm
  value ← reading_value (value_at form.0 format s.constant bytes form.1)
  _ ← refuse_if (is_negative_count s.name value.0.content) causes.AttrForm
  Ok (
    record {
      name = s.name;
      value = record { form = form.0; number = number_of value.0.content value.1 };
    },
    value.1,
  )

-- The consecutive attributes of a declaration from an offset on, and the offset after them.
unfoldable pub attributes_at : Format → List AttributeSpecification → List ℕ → ℕ
    → Result (List Attribute × ℕ) Cause
attributes_at format [] bytes at = Ok ([], at)
attributes_at format (s ∷ ss) bytes at = do
  first ← attribute_at format s bytes at
  rest ← attributes_at format ss bytes first.1
  Ok (first.0 ∷ rest.0, rest.1)

-- The declaration of a code.
abbrev pub declaration_of : List Declaration → ℕ → Option Declaration
declaration_of table code = find (λ declaration. declaration.code == code) table

-- The node at an offset of a unit, at a given depth, and the offset after it. `rooted` is whether
-- the root of the unit is before it.
abbrev pub node_at_depth : Format → List Declaration → ℕ → Bool → List ℕ → ℕ
    → Result (Node × ℕ) Cause
node_at_depth format table depth rooted unit at = do
  code ← reading (uleb_at unit at)
  if code.0 == 0 then Ok (Null, code.1) else do
    declaration ← ok_or (declaration_of table code.0) causes.AbbrevCode
    _ ← refuse_if ((depth == 0) && rooted) causes.TwoRoots
    _ ← refuse_if (nat_lt depth_limit depth) causes.TooDeep
    attributes ← attributes_at format declaration.attributes unit code.1
    Ok (Entry declaration.tag declaration.children attributes.0, attributes.1)

-- The same node, given the list of nodes before it. The bytes end with the unit.
abbrev pub node_at : Format → List Declaration → List ℕ → List LocatedNode → ℕ
    → Result (Next LocatedNode) Cause
node_at format table unit before at = if nat_le (length unit) at then Ok (End at) else do
  node ← node_at_depth format table (depth_after before) (list_any is_root before) unit at
  Ok (Item (record { offset = at; depth = depth_after before; node = node.0 }) node.1)

-- The entry at an offset of a unit, without regard to the entries before it: its tag and
-- attributes, and the offset after it.
unfoldable pub entry_at : Format → List Declaration → List ℕ → ℕ
    → Result ((ℕ × List Attribute) × ℕ) Cause
entry_at format table unit at = do
  code ← reading (uleb_at unit at)
  declaration ← ok_or (declaration_of table code.0) causes.AbbrevCode
  attributes ← attributes_at format declaration.attributes unit code.1
  Ok ((declaration.tag, attributes.0), attributes.1)

-- An entry that is not null.
pub record Die : Type 0 where
  pub offset : ℕ
  pub depth : ℕ
  pub tag : ℕ
  pub attributes : List Attribute

abbrev pub die_in : ℕ → ℕ → Node → Option Die
die_in offset depth (Entry tag children attributes) =
    Some (record { offset = offset; depth = depth; tag = tag; attributes = attributes })
die_in offset depth Null = None

abbrev pub die_of : LocatedNode → Option Die
die_of s = die_in s.offset s.depth s.node

-- The entries of a unit. The unit is refused if a list of children is not terminated.
unfoldable pub entries_of : List ℕ → UnitHeader → List Declaration → Result (List Die) At
entries_of info header table = do
  all ← items_from header.end (node_at header.format table (take header.end info)) [] header.first
  _ ← with_offset header.start (refuse_if (nat_lt 0 (depth_after all.0)) causes.TreeOpen)
  Ok (filter_map die_of all.0)

-- The descendants of the first entry of a list: the deeper entries that follow it, up to the first
-- that is not deeper.
abbrev pub below : Die → List Die → List Die
below die rest = take_while (λ d. nat_lt die.depth d.depth) rest

-- Entry j is below entry i if i is before j and every entry after i up to j is deeper than i.
abbrev pub IsBelow : List Die → ℕ → ℕ → Type 0
IsBelow all j i = (i < j) × (j < length all) × ((k : ℕ) (d : Die) → i < k → k ≤ j
    → (slice_index_or all i d).depth < (slice_index_or all k d).depth)

-- The value of an attribute in a list, if it is present.
abbrev pub value_of : List Attribute → ℕ → Option AttributeValue
value_of attributes name = option_map (λ a. a.value) (find (λ a. a.name == name) attributes)

-- The value of an attribute of an entry.
abbrev pub attribute : Die → ℕ → Option AttributeValue
attribute die name = value_of die.attributes name
