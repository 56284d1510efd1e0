-- The data that is stored for the entries of a unit, for the contracts of the walk.
use Rattle.dwarf_bytes.specs.{Bind.◌>>=◌, Items.At, declared.constants.TheConstants.DW_AT_ADDR_BASE}
use Rattle.dwarf_bytes.specs.declared.constants.TheConstants.{DW_AT_CALL_FILE, DW_AT_CALL_LINE}
use Rattle.dwarf_bytes.specs.declared.constants.TheConstants.{DW_AT_HIGH_PC, DW_AT_LINKAGE_NAME}
use Rattle.dwarf_bytes.specs.declared.constants.TheConstants.{DW_AT_LOW_PC, DW_AT_NAME}
use Rattle.dwarf_bytes.specs.declared.constants.TheConstants.{DW_AT_RANGES, DW_AT_RNGLISTS_BASE}
use Rattle.dwarf_bytes.specs.declared.constants.TheConstants.{DW_AT_STMT_LIST}
use Rattle.dwarf_bytes.specs.declared.constants.TheConstants.{DW_AT_STR_OFFSETS_BASE}
use Rattle.dwarf_forms.specs.Declarations.{Declaration}
use Rattle.dwarf_units.specs.Entries.{Die, attribute, below, entries_of}
use Rattle.dwarf_units.specs.declared.unit_headers.UnitHeader.{UnitHeader}
use Rattle.dwarf_walk.specs.{References.next_of, ScopeEntries.{is_scope, kind_of, number_of}}
use Rattle.dwarf_walk.specs.declared.scope_kind.ScopeKind.{ScopeKind}
use Rattle.dwarf_walk.specs.declared.unit_entries.{NamedEntry.NamedEntry, RootEntry.RootEntry}
use Rattle.dwarf_walk.specs.declared.unit_entries.{ScopeEntry.ScopeEntry, ScopePlace.ScopePlace}
use Rattle.dwarf_walk.specs.declared.unit_entries.UnitEntries.{UnitEntries}
use Rattle.std.specs.Prelude.{List, None, Ok, Option, Result, Some, [], count_by, option_map, ℕ}
use Rattle.std.specs.Prelude.{◌∷◌}

abbrev pub named_entry : Die → NamedEntry
named_entry die = record {
  offset = die.offset;
  next = next_of die;
  name = attribute die DW_AT_NAME;
  linkage_name = attribute die DW_AT_LINKAGE_NAME;
}

abbrev pub scope_entry : Die → ScopeKind → ScopeEntry
scope_entry die kind = record {
  entry = named_entry die;
  kind = kind;
  low_pc = attribute die DW_AT_LOW_PC;
  high_pc = attribute die DW_AT_HIGH_PC;
  ranges = attribute die DW_AT_RANGES;
  call_file = number_of DW_AT_CALL_FILE die;
  call_line = number_of DW_AT_CALL_LINE die;
}

-- The scope of an entry, if it is one.
abbrev pub scope_entry_of : Die → Option ScopeEntry
scope_entry_of die = option_map (scope_entry die) (kind_of die.tag)

abbrev pub root_entry : Die → RootEntry
root_entry die = record {
  offset = die.offset;
  stmt_list = number_of DW_AT_STMT_LIST die;
  str_offsets_base = attribute die DW_AT_STR_OFFSETS_BASE;
  addr_base = attribute die DW_AT_ADDR_BASE;
  rnglists_base = attribute die DW_AT_RNGLISTS_BASE;
  low_pc = attribute die DW_AT_LOW_PC;
}

-- The root of a unit, which is its first entry.
abbrev pub root_in : List Die → Option RootEntry
root_in [] = None
root_in (root ∷ dies) = Some (root_entry root)

-- Prepends the offset of an entry and the number of scopes below it, if the entry is a scope.
abbrev pub scope_place : Die → List Die → Option ScopeKind → List ScopePlace → List ScopePlace
scope_place die rest None places = places
scope_place die rest (Some kind) places =
    record { offset = die.offset; inside = count_by is_scope (below die rest) } ∷ places

-- The list of all scopes.
abbrev pub scope_places : List Die → List ScopePlace
scope_places [] = []
scope_places (die ∷ rest) = scope_place die rest (kind_of die.tag) (scope_places rest)

-- The data that is stored for a unit.
pub record StoredUnit : Type 0 where
  pub header : UnitHeader
  pub root : Option RootEntry
  pub scopes : List ScopePlace

-- The data for a list of entries.
abbrev pub stored_unit : UnitHeader → List Die → StoredUnit
stored_unit header dies = record {
  header = header;
  root = root_in dies;
  scopes = scope_places dies;
}

-- The data for the entries of a unit, as its table declares them.
abbrev pub stored_entries : List ℕ → UnitHeader → List Declaration → Result StoredUnit At
stored_entries info header table = entries_of info header table
    >>= λ dies. Ok (stored_unit header dies)

-- The data that the program stores.
abbrev pub stored_of : UnitEntries → StoredUnit
stored_of unit = record { header = unit.header; root = unit.root; scopes = unit.scopes.items }
