-- Cross-checks between entries and line programs: the stmt_list of a unit is the start of a line
-- program, and the call file of an inlined subroutine is a file of that program.
use Rattle.std.specs.Prelude.{◌≡◌, ℕ, List, Bool, false, not, ◌&&◌, Option, Result, Ok, Err, nat_lt}
use Rattle.std.specs.Prelude.{is_none, slice_range}
use Rattle.std.specs.Option.{option_map_or, option_and_then}
use Rattle.dwarf_bytes.specs.Bind.{◌>>=◌}
use Rattle.dwarf_bytes.specs.Items.{At, refuse_if, with_offset, each}
use Rattle.dwarf_bytes.specs.declared.fault.Cause.TheVariants as causes
use Rattle.dwarf_bytes.specs.declared.fault.Section.TheVariants as names
use Rattle.dwarf_bytes.specs.declared.fault.LoadFault.{LoadFault}
use Rattle.dwarf_entries.specs.declared.scope.Root.{Root}
use Rattle.dwarf_walk.specs.declared.scope_kind.ScopeKind.TheVariants.{Inlined}
use Rattle.dwarf_entries.specs.Scopes.{Scope, Tree}
use Rattle.dwarf_lines.specs.Lines.{Lines, program_at, file_count}
use Rattle.addr_table.specs.Chains.{is_kind}

-- the number of files of the program at a stmt_list; 0 if there is no program
unfoldable pub files_at : Lines → Option ℕ → ℕ
files_at lines stmt_list =
    option_map_or (file_count lines) (option_and_then (program_at lines) stmt_list) 0

-- whether the stmt_list of a root is not the start of a program
unfoldable pub is_invalid_root : Lines → Root → Bool
is_invalid_root lines root =
    option_map_or (λ start. is_none (program_at lines start)) root.stmt_list false

-- whether a call file is not a file of the program at a stmt_list
abbrev pub is_invalid_call : Lines → Option ℕ → Option ℕ → Bool
is_invalid_call lines call_file stmt_list =
    option_map_or (λ file. not (nat_lt file (files_at lines stmt_list))) call_file false

-- whether a scope is an inlined subroutine with an invalid call file
unfoldable pub is_invalid_scope : Lines → Scope → Bool
is_invalid_scope lines s = is_kind Inlined s.kind && is_invalid_call lines s.call_file s.stmt_list

abbrev pub check_root : Lines → Root → Result (Unit {0}) At
check_root lines root =
    with_offset root.offset (refuse_if (is_invalid_root lines root) causes.StmtList)

abbrev pub check_scope : Lines → Scope → Result (Unit {0}) At
check_scope lines s = with_offset s.offset (refuse_if (is_invalid_scope lines s) causes.CallFile)

-- checks a root, and then each scope of its unit
abbrev pub check_unit : Lines → List Scope → Root → Result (List (Unit {0})) At
check_unit lines scopes root = check_root lines root
    >>= λ _. each (λ _ s. check_scope lines s) (slice_range scopes root.first root.past)

-- checks the units in order
unfoldable pub cross_checks_of : Lines → Tree → Result (List (List (Unit {0}))) At
cross_checks_of lines tree = each (λ _ root. check_unit lines tree.scopes root) tree.roots

-- a pass over entries that stores nothing reports the same fault as the outcome
abbrev pub RefusesAs : {Y : Type 0} → Result (Unit {0}) LoadFault → Result Y At → Type 0
RefusesAs {Y} (Ok u) outcome = (y : Y) × (outcome ≡ Ok y)
RefusesAs (Err fault) outcome =
    (fault.section ≡ names.DebugInfo) × (outcome ≡ Err (fault.cause, fault.at))
