-- The start of a walk over a chain, and whether scopes remain.
use Rattle.std.proofs.Common.{◌≡◌, ◌∙◌, ℕ, suc, ◌-◌, ◌<◌, ◌≤◌, List, [], ◌∷◌, ◌++◌, length, reverse}
use Rattle.std.proofs.Common.{get_or, Bool, true, false, ◌&&◌, refl, sym, ap, inl, inr}
use Rattle.std.proofs.Common.{arith}
use Rattle.std.specs.Prelude.{Option, Some, None, nat_lt, nat_le, find}
use Rattle.std.specs.Option.{SomeIff}
use Rattle.std.proofs.lemmas.Bool.Decides.{nat_tests}
use Rattle.std.proofs.lemmas.Bool.{cases_lt}
use Rattle.std.proofs.lemmas.List.{reverse-append}
use Rattle.dwarf_walk.specs.declared.scope_kind.ScopeKind.TheVariants.{Subprogram}
use Rattle.dwarf_entries.specs.Scopes.{Scope}
use Rattle.dwarf_entries.specs.Order.{AreNumbered}
use Rattle.addr_table.specs.Chains.{is_at, encloses, enclosing, chain_among}
use Rattle.addr_table.specs.Frames.{place_chain}
use Rattle.addr_table.specs.Private.Parents.{enclosing_at, IsParent}
use Rattle.addr_table.specs.Private.Walks.{HaveParents, parent_code, chain_at, top_at}
use Rattle.addr_table.specs.Private.Walks.{search_start_of}
use Rattle.addr_table.proofs.Chains.ParentWalkLaws.{chain-none, chain-some, number_in}

-- ---- whether scopes remain

pub filled : (s : Scope) (xs : List Scope) → reverse (s ∷ xs) ≡ [] → ⊥
filled s xs h = full (reverse xs) (sym (reverse-append (s ∷ []) xs) ∙ h)
  where
    full : (ys : List Scope) → ys ++ s ∷ [] ≡ [] → ⊥
    full [] h = cc
    full (y ∷ ys) h = cc

-- ---- the start

past-end : (m total number : ℕ) (xs : List Scope) → AreNumbered m total xs → total ≤ number
    → enclosing number xs ≡ []
past-end m total number [] h le = refl
past-end m total number (s ∷ xs) h le =
    let low : s.«end» ≤ total = h.2 in
    let out : encloses number s ≡ false = beyond (nat_le s.number number) s.«end» (omega arith) in
    rw out (past-end (suc m) total number xs h.3 le)
  where
    beyond : (b : Bool) (e : ℕ) → e ≤ number → (b && nat_lt number e) ≡ false
    beyond b e le = grind (arith, nat_tests)

pub started-chain : (a : ℕ) (scopes : List Scope) (codes : List ℕ) (scope : Option ℕ)
    → HaveParents scopes codes
    → place_chain a scope scopes ≡ chain_at a scopes (search_start_of (length scopes) scope)
started-chain a scopes codes None have = refl
started-chain a scopes codes (Some number) have = elim (cases_lt number (length scopes)) [
  | inl lt ↦ (let inside : nat_lt number (length scopes) ≡ true = grind (arith, nat_tests) in
      rw inside refl)
  | inr le ↦
      (let outside : nat_lt number (length scopes) ≡ false = grind (arith, nat_tests) in rw outside
      (ap (chain_among a) (past-end 0 (length scopes) number scopes have.order.numbered le)))
]

-- without an outermost scope the chain is empty
pub no-chain : (a : ℕ) (scopes : List Scope) (code : ℕ) → top_at a scopes code ≡ None
    → chain_at a scopes code ≡ []
no-chain a scopes code h = chain-none a (enclosing_at scopes code)
    (by (find (is_at Subprogram a) (enclosing_at scopes code)) h)
  where
    by : (o : Option Scope) → number_in o ≡ None → o ≡ None
    by None h = refl
    by (Some s) h = cc

pub parent-within : (scopes : List Scope) (codes : List ℕ) (k : ℕ) → HaveParents scopes codes
    → k < length scopes → get_or codes k 0 ≤ length scopes
parent-within scopes codes k have lt =
    let all : length codes ≡ length scopes = have.all in
    let within : k < length codes = omega arith in
    let parent : IsParent scopes k (get_or codes k 0) = have.parents k within in
    let low : get_or codes k 0 ≤ k = parent.code_is in omega arith

-- ---- a scope, or none

pub code-some : (scope : Option ℕ) (k : ℕ) → scope ≡ Some k → parent_code scope ≡ suc k
code-some scope k is = ap parent_code is

pub code-before : (scope : Option ℕ) (n : ℕ) → SomeIff scope (1 ≤ n) (n - 1) → parent_code scope ≡ n
code-before None n none = let under : ¬ (1 ≤ n) = none in omega arith
code-before (Some k) n h = let some : 1 ≤ n = h.0 in let is : k ≡ n - 1 = h.1 in omega arith

pub code-below : (scope : Option ℕ) (k n : ℕ) → scope ≡ Some k → parent_code scope ≤ n → k < n
code-below scope k n is le = let code : parent_code scope ≡ suc k =
    code-some scope k is in omega arith

-- with an outermost scope the chain is not empty
pub some-chain : (a : ℕ) (scopes : List Scope) (code top : ℕ) → top_at a scopes code ≡ Some top
    → (s : Scope) × (inner : List Scope) × (chain_at a scopes code ≡ s ∷ inner)
some-chain a scopes code top h = by (find (is_at Subprogram a) (enclosing_at scopes code)) refl h
  where
    by : (o : Option Scope) → find (is_at Subprogram a) (enclosing_at scopes code) ≡ o
        → number_in o ≡ Some top
        → (s : Scope) × (inner : List Scope) × (chain_at a scopes code ≡ s ∷ inner)
    by None f t = cc
    by (Some s) f t = let held = chain-some a (enclosing_at scopes code) s f in (s, held.0, held.1)
