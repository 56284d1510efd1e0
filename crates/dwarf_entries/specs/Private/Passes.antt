-- The results of the passes over all units, for their contracts.
use Rattle.dwarf_bytes.specs.{Items.{At, with_offset}, Refusals.{in_section, memory_fault}}
use Rattle.dwarf_bytes.specs.declared.{fault.LoadFault.LoadFault, format.Format.Format}
use Rattle.dwarf_entries.specs.{Passes.PassedTo, Private.Shared.AreConsecutive, Scopes.ParsedScope}
use Rattle.dwarf_entries.specs.Scopes.{ScopeSite, all_scopes, all_sites, items_limit, parse_scope}
use Rattle.dwarf_entries.specs.Scopes.{roots_from, scopes_of, stmt_list_by_number, stmt_list_of}
use Rattle.dwarf_entries.specs.Units.{CompilationUnit}
use Rattle.dwarf_entries.specs.declared.origin_chains.PackedNames.{PackedNames}
use Rattle.dwarf_entries.specs.declared.scope.ScopeFacts.{ScopeFacts}
use Rattle.dwarf_entries.specs.declared.scope_lists.ScopeLists.{ScopeLists}
use Rattle.dwarf_entries.specs.declared.unit_scopes.ScopeNumbers.{ScopeNumbers}
use Rattle.dwarf_ranges.specs.Bases.{bases_by, no_bases}
use Rattle.dwarf_ranges.specs.declared.bases.{Bases.Bases, Table.Table}
use Rattle.dwarf_walk.specs.{ScopeEntries.is_scope, Sections.Sections, Stored.scope_entry}
use Rattle.dwarf_walk.specs.declared.unit_entries.{RootEntry.RootEntry, ScopeEntry.ScopeEntry}
use Rattle.std.specs.Prelude.{Err, List, None, Ok, Option, Result, Some, count_by, length, map}
use Rattle.std.specs.Prelude.{option_and_then, slice_get, sum_by, take, ℕ, ◌+◌, ◌-◌, ◌≡◌, ◌⊎◌}
use Rattle.dwarf_bytes.specs.declared.fault.Section.TheVariants as names

-- The bases that a root defines. A fault is reported at the offset of the root.
abbrev pub bases_in : Sections → Format → Option RootEntry → Result Bases At
bases_in s format None = Ok no_bases
bases_in s format (Some root) = with_offset root.offset
    (bases_by s format root.str_offsets_base root.addr_base root.rnglists_base root.low_pc)

abbrev pub bases_of : CompilationUnit → Bases
bases_of unit = unit.bases

-- The string offsets table of the unit at an index, given the bases of each unit.
abbrev pub str_offsets_at : List Bases → ℕ → Option Table
str_offsets_at bases unit = option_and_then (λ b. b.str_offsets) (slice_get bases unit)

-- The number of scopes of some units.
abbrev pub number_of_scopes : List CompilationUnit → ℕ
number_of_scopes us = sum_by (λ u. count_by is_scope u.dies) us

-- The number of the first scope of the unit at an index, if the unit has scopes.
abbrev pub first_number : List CompilationUnit → ℕ → ℕ
first_number us unit = number_of_scopes (take unit us)

-- The site is a scope of a unit of the program, after the scopes in `before`. `budget` is the rest
-- of the budget of range items.
pub record IsScopeSite (us : List CompilationUnit) (numbers : ScopeNumbers) (entry : ScopeEntry)
    (budget : ℕ) (before : List ParsedScope) (p : ScopeSite) : Type 0 where
  pub unit_is : slice_get us numbers.unit ≡ Some p.member.unit
  pub stmt_list_is :
      stmt_list_by_number (roots_from 0 us) numbers.number ≡ stmt_list_of p.member.unit.dies
  pub entry_is : entry ≡ scope_entry p.member.die p.kind
  pub descendants_are : numbers.inside ≡ p.inside
  pub number_is : numbers.number ≡ length before
  pub budget_is : budget ≡ items_limit - sum_by (λ s. s.items) before

-- The data of a scope, given its entry and its names.
abbrev pub scope_facts : ScopeNumbers → ScopeEntry → PackedNames → ScopeFacts
scope_facts numbers entry names = record {
  kind = entry.kind;
  offset = entry.entry.offset;
  number = numbers.number;
  end = numbers.number + numbers.inside + 1;
  name = names.name;
  linkage_name = names.linkage_name;
  site = record { file = entry.call_file; line = entry.call_line };
}

-- The scopes before a number are parsed and stored, and `left` range items remain in the budget.
pub record AreParsedTo (s : Sections) (us : List CompilationUnit) (number : ℕ) (lists : ScopeLists)
    (left : ℕ) : Type 0 where
  pub parsed : List ParsedScope
  pub passed : PassedTo (parse_scope s us) (all_sites us) number parsed
  pub described : scopes_of (roots_from 0 us) lists ≡ map (λ j. j.scope) parsed
  pub in_list : AreConsecutive (length lists.wide.items) 0 (length lists.ranges.items)
      lists.scopes.items
  pub counted : left + sum_by (λ j. j.items) parsed ≡ items_limit

-- The scopes before a number are parsed, or the fault of a scope is reported. The call may also
-- fail because memory ran out.
abbrev pub ParsesTo : Result (Unit {0}) LoadFault → Sections → List CompilationUnit → ℕ
    → ScopeLists → ℕ → Type 0
ParsesTo (Ok _) s us number lists left = AreParsedTo s us number lists left
ParsesTo (Err fault) s us number lists left =
    (fault ≡ memory_fault) ⊎ (in_section names.DebugInfo (all_scopes s us) ≡ Err fault)

-- The call re-reads a site: its entry and the number of scopes below it. It may also fail because
-- memory ran out.
abbrev pub IsSiteRead : Result (ScopeEntry × ℕ) LoadFault → Option ScopeSite → Type 0
IsSiteRead (Ok read) None = ⊥
IsSiteRead (Ok read) (Some p) = (read.0 ≡ scope_entry p.member.die p.kind) × (read.1 ≡ p.inside)
IsSiteRead (Err fault) site = fault ≡ memory_fault
