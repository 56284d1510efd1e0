-- The active ranges of a sweep, with a chain of scopes outside the set.
use Rattle.std.specs.Prelude.{◌≡◌, ℕ, ◌+◌, ◌<◌, ◌≤◌, ◌^◌, List, [], ◌∷◌, length, map, Bool, true}
use Rattle.std.specs.Prelude.{false, Option, Some, None, IfSome, slice_index, slice_index_or}
use Rattle.std.specs.Prelude.{slice_set}
use Rattle.dwarf_entries.specs.Scopes.{Scope}
use Rattle.dwarf_entries.specs.Order.{AreInOrder}
use Rattle.addr_table.specs.declared.scope_chain.ChainScope.{ChainScope}
use Rattle.addr_table.specs.Private.Active.{ActiveSet}
use Rattle.addr_table.specs.Private.Bits.{is_filled}
use Rattle.addr_table.specs.Private.Sweep.{IsInnermost}

-- the active set of a sweep over a number of rows and these scopes
pub record SweptSet : Type 0 where
  pub rows : ℕ
  pub scopes : List Scope
  pub set : ActiveSet

-- the counts of a set, with one more range of each of these keys
abbrev pub counts_with_keys : List ℕ → List ℕ → List ℕ
counts_with_keys [] counts = counts
counts_with_keys (key ∷ keys) counts =
    counts_with_keys keys (slice_set counts key (slice_index counts key + 1))

-- each key has no range until it gets one
abbrev pub AreFree : List ℕ → List ℕ → Type 0
AreFree [] counts = Unit {0}
AreFree (key ∷ keys) counts =
    (key < length counts) × (is_filled counts key ≡ false)
    × AreFree keys (slice_set counts key (slice_index counts key + 1))

abbrev pub keys_of : List ChainScope → List ℕ
keys_of chain = map (λ c. c.key) chain

-- the same for the scopes of a chain, and the calls of a set
abbrev pub set_with_chain : List ChainScope → ActiveSet → ActiveSet
set_with_chain chain set =
    record { counts = counts_with_keys (keys_of chain) set.counts; calls = set.calls }

-- A scope of a chain. Its key is its number after the first key of its kind.
pub record IsChainScope (first : ℕ) (scopes : List Scope) (c : ChainScope) : Type 0 where
  pub key_is : c.key ≡ first + c.number
  pub within : c.number < length scopes
  pub end_is : (d : Scope) → c.«end» ≡ (slice_index_or scopes c.number d).«end»

-- scopes inlined one in another, the first one in an outer scope
abbrev pub AreInside : ℕ → List Scope → ChainScope → List ChainScope → Type 0
AreInside first scopes outer [] = Unit {0}
AreInside first scopes outer (c ∷ inner) =
    (outer.number < c.number) × (c.number < outer.«end») × IsChainScope first scopes c
    × AreInside first scopes c inner

-- a subprogram, and scopes inlined one in another in it
abbrev pub IsNested : ℕ → List Scope → List ChainScope → Type 0
IsNested rows scopes [] = Unit {0}
IsNested rows scopes (c ∷ inner) =
    IsChainScope rows scopes c × AreInside (rows + length scopes) scopes c inner

abbrev pub last_of : ChainScope → List ChainScope → ChainScope
last_of c [] = c
last_of c (d ∷ inner) = last_of d inner

-- the number of the last scope of a chain
abbrev pub last_number : List ChainScope → Option ℕ
last_number [] = None
last_number (c ∷ inner) = Some (last_of c inner).number

-- A scope continues a chain: it is inlined in the last scope, or it is a subprogram and the chain
-- is empty.
abbrev pub IsInnerIn : ℕ → List Scope → List ChainScope → ChainScope → Type 0
IsInnerIn rows scopes [] scope = IsChainScope rows scopes scope
IsInnerIn rows scopes (c ∷ inner) scope =
    AreInside (rows + length scopes) scopes (last_of c inner) (scope ∷ [])

-- no key of a scope has a range
abbrev pub HasNoScopes : ℕ → List ℕ → Type 0
HasNoScopes rows counts = (k : ℕ) → rows ≤ k → is_filled counts k ≡ false

-- The chain has all active scopes, unless the set can have some. Then the chain is empty, and the
-- innermost scope may have been found.
pub record IsChained (rows : ℕ) (scopes : List Scope) (chain : List ChainScope) (counts : List ℕ)
    (has_scopes is_found : Bool) (innermost : Option ℕ) : Type 0 where
  pub order : AreInOrder scopes
  pub few : rows + length scopes + length scopes < 2 ^ 32
  pub len : length counts ≡ rows + length scopes + length scopes
  pub nested : IsNested rows scopes chain
  pub none : has_scopes ≡ false → HasNoScopes rows counts
  pub apart : has_scopes ≡ true → chain ≡ []
  pub within : IfSome innermost (λ n. n < length scopes)
  pub found : is_found ≡ true → IsInnermost rows scopes counts innermost
