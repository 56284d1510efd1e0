-- A walk over the scopes of a chain, from the innermost to the outermost.
use Rattle.std.specs.Prelude.{◌≡◌, ◌≢◌, ℕ, suc, ◌≤◌, ◌⊎◌, true, List, length, get_or, ◌==◌}
use Rattle.std.specs.Prelude.{nat_lt, find, map, Option, Some, None, option_map, if◌then◌else◌}
use Rattle.dwarf_walk.specs.declared.scope_kind.ScopeKind.TheVariants.{Subprogram, Inlined}
use Rattle.dwarf_entries.specs.Scopes.{Scope}
use Rattle.dwarf_entries.specs.Order.{AreInOrder}
use Rattle.addr_table.specs.Chains.{is_at, chain_among}
use Rattle.addr_table.specs.Private.Parents.{enclosing_at, AreParents}

-- scopes, and for each scope the code of its parent: 1 + its number, or 0 if there is none
pub record HaveParents (scopes : List Scope) (codes : List ℕ) : Type 0 where
  pub order : AreInOrder scopes
  pub parents : AreParents scopes codes
  pub all : length codes ≡ length scopes

-- the code of an optional parent: 1 + its number; 0 for none
abbrev pub parent_code : Option ℕ → ℕ
parent_code None = 0
parent_code (Some number) = suc number

abbrev pub parent_codes : List (Option ℕ) → List ℕ
parent_codes = map parent_code

-- the chain among the scope with this code and the scopes that enclose it
abbrev pub chain_at : ℕ → List Scope → ℕ → List Scope
chain_at a scopes code = chain_among a (enclosing_at scopes code)

-- the number of the outermost scope of that chain
abbrev pub top_at : ℕ → List Scope → ℕ → Option ℕ
top_at a scopes code =
    option_map (λ s. s.number) (find (is_at Subprogram a) (enclosing_at scopes code))

-- no scope is left, or top is the outermost scope of the chain
abbrev pub EndsAt : ℕ → List Scope → ℕ → ℕ → Type 0
EndsAt a scopes code top = (code ≡ 0) ⊎ (top_at a scopes code ≡ Some top)

-- no scope is left, or the scope of `code` is in the chain
pub data IsInChain (a : ℕ) (scopes : List Scope) (code top : ℕ) : Type 0 where
  nothing : code ≡ 0 → IsInChain a scopes code top
  outermost : code ≡ suc top → IsInChain a scopes code top
  inlined : (k : ℕ) → code ≡ suc k → k ≢ top
      → ((d : Scope) → is_at Inlined a (get_or scopes k d) ≡ true) → IsInChain a scopes code top

-- 1 + the number of the parent of a scope in the chain; 0 for the outermost scope
abbrev pub outer_of : List ℕ → ℕ → ℕ → ℕ
outer_of codes top number = if number == top then 0 else get_or codes number 0

-- 1 + the number of a scope if it is below count; 0 otherwise
abbrev pub search_start_of : ℕ → Option ℕ → ℕ
search_start_of count None = 0
search_start_of count (Some number) = if nat_lt number count then suc number else 0

pub record IsWalk (scopes : List Scope) (codes : List ℕ) (a code top : ℕ) : Type 0 where
  pub have : HaveParents scopes codes
  pub within : code ≤ length scopes
  pub ends : EndsAt a scopes code top
