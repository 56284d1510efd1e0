-- The line programs of the scopes of a unit.
use Rattle.std.specs.Prelude.{◌≡◌, ℕ, ◌<◌, ◌≤◌, List, Bool, false, not, nat_lt, Option}
use Rattle.std.specs.List.{Contains}
use Rattle.std.specs.Option.{option_map_or}
use Rattle.dwarf_lines.specs.Lines.{Lines}
use Rattle.dwarf_entries.specs.declared.scope.Root.{Root}
use Rattle.dwarf_entries.specs.Scopes.{Scope}
use Rattle.addr_table.specs.CrossChecks.{files_at}

-- whether a call file is not below the number of files
abbrev pub is_beyond : ℕ → Option ℕ → Bool
is_beyond files call_file = option_map_or (λ file. not (nat_lt file files)) call_file false

-- the line programs of the scopes with these numbers have this number of files
abbrev pub HaveFiles : Lines → List Scope → ℕ → ℕ → ℕ → Type 0
HaveFiles lines scopes files first past = (scope : Scope) → Contains scopes scope
    → first ≤ scope.number → scope.number < past → files_at lines scope.stmt_list ≡ files

-- the scopes of the unit of a root have its stmt_list
abbrev pub HaveStmtListOf : Root → List Scope → Type 0
HaveStmtListOf root scopes = (scope : Scope) → Contains scopes scope
    → root.first ≤ scope.number → scope.number < root.past → scope.stmt_list ≡ root.stmt_list
