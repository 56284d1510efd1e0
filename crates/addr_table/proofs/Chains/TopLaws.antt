-- The outermost scope of a chain, found by following parents.
use Rattle.std.proofs.Common.{◌≡◌, ◌∙◌, ℕ, suc, ◌<◌, List, [], length, get_or, Bool}
use Rattle.std.proofs.Common.{true, false, cond, refl, sym, ap, arith, zero-add}
use Rattle.std.specs.Prelude.{Option, Some, None, find}
use Rattle.std.specs.Option.{option_or}
use Rattle.dwarf_walk.specs.declared.scope_kind.ScopeKind.TheVariants.{Subprogram}
use Rattle.dwarf_entries.specs.Scopes.{Scope}
use Rattle.addr_table.specs.Chains.{is_at}
use Rattle.addr_table.specs.Private.Parents.{enclosing_at, IsParent}
use Rattle.addr_table.specs.Private.Walks.{HaveParents, top_at}
use Rattle.addr_table.proofs.Chains.ParentSearch.{number-there}
use Rattle.addr_table.proofs.Chains.ParentWalkLaws.{found-more, number_in}

-- ---- the outermost scope, found by following parents

or-none : {X : Type 0} (o : Option X) → option_or o None ≡ o
or-none None = refl
or-none (Some x) = refl

or-some : {X : Type 0} (x : X) (o found : Option X) → option_or (option_or o (Some x)) found
    ≡ option_or o (Some x)
or-some x None found = refl
or-some x (Some y) found = refl

number-or : (o p : Option Scope) → number_in (option_or o p) ≡ option_or (number_in o) (number_in p)
number-or None p = refl
number-or (Some s) p = refl

-- the outermost scope after one step to the parent
top-split : (a : ℕ) (scopes : List Scope) (codes : List ℕ) (k : ℕ) (d : Scope)
    → HaveParents scopes codes → k < length scopes
    → top_at a scopes (suc k) ≡ option_or (top_at a scopes (get_or codes k 0))
    (cond (is_at Subprogram a (get_or scopes k d)) (Some k) None)
top-split a scopes codes k d have lt =
    ap (λ (xs : List Scope). number_in (find (is_at Subprogram a) xs)) (parent.enclosing_is d)
    ∙ (ap number_in (found-more a (enclosing_at scopes (get_or codes k 0)) (get_or scopes k d))
    ∙ (number-or (find (is_at Subprogram a) (enclosing_at scopes (get_or codes k 0)))
    (cond (is_at Subprogram a (get_or scopes k d)) (Some (get_or scopes k d)) None)
    ∙ ap (option_or (top_at a scopes (get_or codes k 0)))
    (inside (is_at Subprogram a (get_or scopes k d)))))
  where
    parent : IsParent scopes k (get_or codes k 0)
    parent = have.parents k (let all : length codes ≡ length scopes = have.all in omega arith)

    there : (get_or scopes k d).number ≡ k
    there = number-there 0 (length scopes) k scopes d have.order.numbered lt ∙ zero-add k

    inside : (b : Bool) → number_in (cond b (Some (get_or scopes k d)) None) ≡ cond b (Some k) None
    inside true = ap Some there
    inside false = refl

-- after some steps from a number
abbrev pub IsTop : ℕ → List Scope → ℕ → ℕ → Option ℕ → Type 0
IsTop a scopes start code found = top_at a scopes start ≡ option_or (top_at a scopes code)
    found

pub top-more : (a : ℕ) (scopes : List Scope) (codes : List ℕ) (start k : ℕ) (found : Option ℕ)
    (b : Bool)
    → HaveParents scopes codes → k < length scopes → IsTop a scopes start (suc k) found
    → ((d : Scope) → b ≡ is_at Subprogram a (get_or scopes k d))
    → IsTop a scopes start (get_or codes k 0) (cond b (Some k) found)
top-more a scopes codes start k found b have le h held = by b held
  where
    no_scope : Scope
    no_scope =
        record {
          kind = Subprogram;
          offset = 0;
          number = 0;
          «end» = 0;
          ranges = [];
          name = None;
          linkage_name = None;
          stmt_list = None;
          call_file = None;
          call_line = None;
        }

    split : (b : Bool) → ((d : Scope) → b ≡ is_at Subprogram a (get_or scopes k d))
        → top_at a scopes start ≡ option_or
        (option_or (top_at a scopes (get_or codes k 0)) (cond b (Some k) None)) found
    split b held =
        h
        ∙ ap (λ (o : Option ℕ). option_or o found)
        (top-split a scopes codes k no_scope have le
        ∙ ap (λ (c : Bool). option_or (top_at a scopes (get_or codes k 0))
        (cond c (Some k) None)) (sym (held no_scope)))

    by : (b : Bool) → ((d : Scope) → b ≡ is_at Subprogram a (get_or scopes k d))
        → IsTop a scopes start (get_or codes k 0) (cond b (Some k) found)
    by true held = split true held ∙ or-some k (top_at a scopes (get_or codes k 0)) found
    by false held = split false held ∙ ap (λ (o : Option ℕ). option_or o found)
        (or-none (top_at a scopes (get_or codes k 0)))
