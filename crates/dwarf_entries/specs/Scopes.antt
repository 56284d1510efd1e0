-- The subprograms and inlined subroutines of all units (DWARF 5, 3.3), and the faults of
-- .debug_info.
use Rattle.dwarf_bytes.specs.{Bind.◌>>=◌, Items.{At, each, with_offset}, Refusals.in_section}
use Rattle.dwarf_bytes.specs.declared.constants.TheConstants.{DW_AT_CALL_FILE, DW_AT_CALL_LINE}
use Rattle.dwarf_bytes.specs.declared.{constants.TheConstants.DW_AT_STMT_LIST, fault.Cause.Cause}
use Rattle.dwarf_bytes.specs.declared.fault.{LoadFault.LoadFault, Section.Section}
use Rattle.dwarf_entries.specs.{Names.{EntryNames, Member, names_of}, Units.CompilationUnit}
use Rattle.dwarf_entries.specs.{Units.units_read, declared.calls.{CallSite.CallSite, Calls.Calls}}
use Rattle.dwarf_entries.specs.declared.{scope.Root.Root, scope_lists.ScopeLists.ScopeLists}
use Rattle.dwarf_entries.specs.declared.text_offset.TextOffset.{TextOffset}
use Rattle.dwarf_ranges.specs.{Ranges.{Covering, covers_of}, declared.range.Range.Range}
use Rattle.dwarf_units.specs.Entries.{Die, below}
use Rattle.dwarf_walk.specs.{ScopeEntries.{is_scope, kind_of, number_of}, Sections.Sections}
use Rattle.dwarf_walk.specs.declared.scope_kind.ScopeKind.{ScopeKind}
use Rattle.std.specs.{List.find, Option.{option_map_or, unwrap_or}, Prelude.{List, None, Ok}}
use Rattle.std.specs.Prelude.{Option, Result, Some, [], count_by, drop, flat_map, if◌then◌else◌}
use Rattle.std.specs.Prelude.{length, map, nat_lt, option_and_then, slice_get, sum_by, take, ℕ, ◌*◌}
use Rattle.std.specs.Prelude.{◌+◌, ◌-◌, ◌==◌, ◌^◌, ◌∷◌}
use Rattle.dwarf_entries.specs.declared.scope.Scope.{Scope as StoredScope}
use Rattle.dwarf_bytes.specs.declared.fault.Section.TheVariants as names
use Rattle.dwarf_entries.specs.declared.calls.Calls.TheVariants as calls

-- The data of a scope. `end` is the number of the first later scope that is not below it.
pub record Scope : Type 0 where
  pub kind : ScopeKind
  pub offset : ℕ
  pub number : ℕ
  pub end : ℕ
  pub ranges : List Range
  pub name : Option TextOffset
  pub linkage_name : Option TextOffset
  pub stmt_list : Option ℕ
  pub call_file : Option ℕ
  pub call_line : Option ℕ

-- A string, given its section and its offset there. The greatest number of 32 bits means that
-- there is no string.
abbrev pub text_by : Section → ℕ → Option TextOffset
text_by section offset =
    if offset == 2 ^ 32 - 1 then None else Some (record { section = section; offset = offset })

-- The index of a wide call site in its list, given the low and the high half of the index.
abbrev pub wide_index : ℕ → ℕ → ℕ
wide_index low high = low + 2 ^ 16 * high

-- The file and line of a call site, given the numbers that it has. If one of them has more than 16
-- bits, both are at an index of a list.
abbrev pub call_site : List CallSite → Calls → ℕ → ℕ → CallSite
call_site wide calls.Missing file line = record { file = None; line = None }
call_site wide calls.File file line = record { file = Some file; line = None }
call_site wide calls.Line file line = record { file = None; line = Some line }
call_site wide calls.Both file line = record { file = Some file; line = Some line }
call_site wide calls.Wide file line =
    unwrap_or (slice_get wide (wide_index file line)) (record { file = None; line = None })

-- The stmt_list of the unit that contains the scope with a number. It is that of the first root
-- whose scopes end after the number.
abbrev pub stmt_list_by_number : List Root → ℕ → Option ℕ
stmt_list_by_number roots number =
    option_and_then (λ r. r.stmt_list) (find (λ r. nat_lt number r.past) roots)

-- A scope of the program, given its ranges and its call site.
abbrev pub scope_by_parts : List Root → CallSite → List Range → StoredScope → Scope
scope_by_parts roots site ranges s = record {
  kind = s.kind;
  offset = s.offset;
  number = s.number;
  end = s.«end»;
  ranges = ranges;
  name = text_by s.name_section s.name_offset;
  linkage_name = text_by s.linkage_name_section s.linkage_name_offset;
  stmt_list = stmt_list_by_number roots s.number;
  call_file = site.file;
  call_line = site.line;
}

-- The same scope, given the lists that scopes share.
abbrev pub scope_of : List Root → List CallSite → List Range → StoredScope → Scope
scope_of roots wide ranges s =
    scope_by_parts roots (call_site wide s.calls s.call_file s.call_line) ranges s

-- The scopes of the program. Their ranges are consecutive in a list, from an index on.
abbrev pub scopes_from : List Root → List CallSite → List Range → ℕ → List StoredScope → List Scope
scopes_from roots wide ranges first [] = []
scopes_from roots wide ranges first (s ∷ ss) =
    scope_of roots wide (take (s.ranges_end - first) (drop first ranges)) s
    ∷ scopes_from roots wide ranges s.ranges_end ss

abbrev pub scopes_of : List Root → ScopeLists → List Scope
scopes_of roots lists = scopes_from roots lists.wide.items lists.ranges.items 0 lists.scopes.items

-- The data that a scope contains itself.
pub record Own : Type 0 where
  pub kind : ScopeKind
  pub offset : ℕ
  pub number : ℕ
  pub end : ℕ
  pub name : Option TextOffset
  pub linkage_name : Option TextOffset

abbrev pub own : Scope → Own
own s = record {
  kind = s.kind;
  offset = s.offset;
  number = s.number;
  end = s.«end»;
  name = s.name;
  linkage_name = s.linkage_name;
}

abbrev pub own_of : StoredScope → Own
own_of s = own (scope_of [] [] [] s)

-- The data of the scope at an index that is accessed through the list of scopes.
abbrev pub ranges_at : List Scope → ℕ → List Range
ranges_at scopes number = option_map_or (λ s. s.ranges) (slice_get scopes number) []

abbrev pub stmt_list_at : List Scope → ℕ → Option ℕ
stmt_list_at scopes number = option_and_then (λ s. s.stmt_list) (slice_get scopes number)

abbrev pub call_file_at : List Scope → ℕ → Option ℕ
call_file_at scopes number = option_and_then (λ s. s.call_file) (slice_get scopes number)

abbrev pub call_line_at : List Scope → ℕ → Option ℕ
call_line_at scopes number = option_and_then (λ s. s.call_line) (slice_get scopes number)

pub record Tree : Type 0 where
  pub roots : List Root
  pub scopes : List Scope

-- A scope without its names and ranges: its entry, its kind, and the number of scopes below it.
pub record ScopeSite : Type 0 where
  pub member : Member
  pub kind : ScopeKind
  pub inside : ℕ

-- Prepends an entry if it is a scope.
abbrev pub site_of : CompilationUnit → Die → List Die → Option ScopeKind → List ScopeSite
    → List ScopeSite
site_of unit die rest None places = places
site_of unit die rest (Some kind) places =
    record {
      member = record { unit = unit; die = die };
      kind = kind;
      inside = count_by is_scope (below die rest);
    } ∷ places

-- The scopes among the entries of a unit.
abbrev pub sites_in : CompilationUnit → List Die → List ScopeSite
sites_in unit [] = []
sites_in unit (die ∷ rest) = site_of unit die rest (kind_of die.tag) (sites_in unit rest)

-- The stmt_list of a unit, which is that of its root.
abbrev pub stmt_list_of : List Die → Option ℕ
stmt_list_of [] = None
stmt_list_of (root ∷ dies) = number_of DW_AT_STMT_LIST root

-- The maximum number of range items that are read for a module.
abbrev pub items_limit : ℕ
items_limit = 4194304

-- A scope, and the number of range items that it was read from.
pub record ParsedScope : Type 0 where
  pub scope : Scope
  pub items : ℕ

-- The scope of a site, given the scopes before it, its names and its ranges.
abbrev pub scope_of_site : List ParsedScope → ScopeSite → EntryNames → Covering → ParsedScope
scope_of_site before p names covering =
    let die = p.member.die in
    record {
      items = covering.items;
      scope = record {
        kind = p.kind;
        offset = die.offset;
        number = length before;
        end = length before + 1 + p.inside;
        ranges = covering.ranges;
        name = names.name;
        linkage_name = names.linkage_name;
        stmt_list = stmt_list_of p.member.unit.dies;
        call_file = number_of DW_AT_CALL_FILE die;
        call_line = number_of DW_AT_CALL_LINE die;
      };
    }

-- The ranges of a site, after the scopes before it.
abbrev pub covers_there : Sections → List ParsedScope → ScopeSite → Result Covering Cause
covers_there sections before p = covers_of (items_limit - sum_by (λ s. s.items) before) sections
    p.member.unit.bases p.member.die

-- The scope of a site, given the scopes before it: its names, then its ranges.
abbrev pub scope_by : Result EntryNames Cause → Sections → List ParsedScope → ScopeSite
    → Result ParsedScope Cause
scope_by found sections before p = do
  names ← found
  covering ← covers_there sections before p
  Ok (scope_of_site before p names covering)

abbrev pub scope_at : Sections → List CompilationUnit → List ParsedScope → ScopeSite
    → Result ParsedScope Cause
scope_at sections units before p = scope_by (names_of sections units p.member) sections before p

-- The same. A fault is reported at the offset of the entry.
abbrev pub parse_scope : Sections → List CompilationUnit → List ParsedScope → ScopeSite
    → Result ParsedScope At
parse_scope s units before p = with_offset p.member.die.offset (scope_at s units before p)

-- The scope sites of all units, and their scopes.
abbrev pub all_sites : List CompilationUnit → List ScopeSite
all_sites us = flat_map (λ u. sites_in u u.dies) us

abbrev pub all_scopes : Sections → List CompilationUnit → Result (List ParsedScope) At
all_scopes s us = each (parse_scope s us) (all_sites us)

-- Prepends the root of a unit, if the unit has one.
abbrev pub root_of : ℕ → ℕ → List Die → List Root → List Root
root_of first past [] roots = roots
root_of first past (root ∷ dies) roots =
    record {
      offset = root.offset;
      stmt_list = number_of DW_AT_STMT_LIST root;
      first = first;
      past = past;
    } ∷ roots

-- The roots of the units. The first scope of the first unit has this number.
abbrev pub roots_from : ℕ → List CompilationUnit → List Root
roots_from number [] = []
roots_from number (unit ∷ units) =
    let past = number + count_by is_scope unit.dies in
    root_of number past unit.dies (roots_from past units)

-- The roots and scopes of these units.
abbrev pub tree_in : Sections → List CompilationUnit → Result Tree LoadFault
tree_in s units = do
  parsed ← in_section names.DebugInfo (all_scopes s units)
  Ok (record { roots = roots_from 0 units; scopes = map (λ j. j.scope) parsed })

-- The roots and scopes of an object. All units are read before the first scope.
unfoldable pub tree_of : Sections → Result Tree LoadFault
tree_of s = units_read s >>= λ units. tree_in s units
