-- A walk down the chain, using the active set.
use Rattle.std.proofs.Common.{◌≡◌, ℕ, suc, ◌+◌, ◌<◌, ◌≤◌, List, [], ◌∷◌, length, get_or}
use Rattle.std.proofs.Common.{ap, sym, ◌∙◌, subst, arith}
use Rattle.std.specs.Prelude.{Some, None, option_map}
use Rattle.dwarf_walk.specs.declared.scope_kind.ScopeKind.TheVariants.{Subprogram}
use Rattle.dwarf_entries.specs.Scopes.{Scope}
use Rattle.dwarf_entries.specs.Order.{AreNumbered}
use Rattle.addr_table.specs.Chains.{chain_of}
use Rattle.addr_table.specs.Places.{last, scope_at}
use Rattle.addr_table.specs.Private.Bits.{is_filled, IsFirstIn}
use Rattle.addr_table.specs.Private.Sweep.{IsActiveBelow, IsActiveAt}
use Rattle.addr_table.proofs.Chains.ChainLaws.{chain-none, chain-some, chain_inside}
use Rattle.addr_table.proofs.Chains.ChainLaws.{chain_inside-none}
use Rattle.addr_table.proofs.Chains.ChainLaws.{chain_inside-some}
use Rattle.addr_table.proofs.Chains.ChainLaws.{number-at}

-- ---- walking down the chain

-- a placeholder for a scope that does not exist
abbrev pub no_scope : Scope
no_scope =
    record {
      kind = Subprogram;
      offset = 0;
      number = 0;
      «end» = 0;
      ranges = [];
      name = None;
      linkage_name = None;
      stmt_list = None;
      call_file = None;
      call_line = None;
    }

-- Scope n is in the chain. Each scope of the chain found so far took at most one call. The scopes
-- below scope n are not counted yet.
pub record IsWalked (a : ℕ) (scopes : List Scope) (n before now : ℕ) : Type 0 where
  pub last_is : last (chain_of a scopes)
      ≡ last (get_or scopes n no_scope ∷ chain_inside a scopes n no_scope)
  pub calls : now + length (chain_inside a scopes n no_scope) + 1 ≤ before + length
      (chain_of a scopes) +
      1

pub walk-start : (rows a n limit before now : ℕ) (scopes : List Scope) (counts : List ℕ)
    → AreNumbered 0 (length scopes) scopes
    → IsActiveBelow rows scopes limit a counts → n < limit
    → IsFirstIn (is_filled counts) rows (rows + length scopes) (Some (rows + n)) → now ≤ before + 1
    → IsWalked a scopes n before now
walk-start rows a n limit before now scopes counts numbered h under found le =
    let is = chain-some rows a n limit scopes counts no_scope numbered h under found in
    let len : length (chain_of a scopes) ≡ suc (length (chain_inside a scopes n no_scope)) =
    ap length is in
    record { last_is = ap last is; calls = omega arith }

pub walk-more : (rows a n m limit before now after : ℕ) (scopes : List Scope) (counts : List ℕ)
    → AreNumbered 0 (length scopes) scopes
    → IsActiveBelow rows scopes limit a counts → n < length scopes → m < limit
    → IsFirstIn (is_filled counts) (rows + length scopes + n + 1)
    (rows + length scopes + (get_or scopes n no_scope).«end»)
    (Some (rows + length scopes + m))
    → IsWalked a scopes n before now → after ≤ now + 1 → IsWalked a scopes m before after
walk-more rows a n m limit before now after scopes counts numbered h lt under found w le =
    let is = chain_inside-some rows a n m limit scopes counts no_scope numbered h lt under found in
    let len : length (chain_inside a scopes n no_scope)
    ≡ suc (length (chain_inside a scopes m no_scope)) =
    ap length is in
    let was : now + length (chain_inside a scopes n no_scope) + 1 ≤ before + length
    (chain_of a scopes) +
    1 = w.calls in
    record {
      last_is = w.last_is ∙ ap (λ (ss : List Scope). last (get_or scopes n no_scope ∷ ss))
          is;
      calls = omega arith;
    }

pub walk-end : (rows a n limit before now after : ℕ) (scopes : List Scope) (counts : List ℕ)
    → AreNumbered 0 (length scopes) scopes
    → IsActiveBelow rows scopes limit a counts → n < length scopes
    → (get_or scopes n no_scope).«end» ≤ limit
    → IsFirstIn (is_filled counts) (rows + length scopes + n + 1)
    (rows + length scopes + (get_or scopes n no_scope).«end») None
    → IsWalked a scopes n before now → after ≤ now + 1
    → (Some n ≡ scope_at scopes a) × (after ≤ before + length (chain_of a scopes) + 1)
walk-end rows a n limit before now after scopes counts numbered h lt fits none w le =
    let is = chain_inside-none rows a n limit scopes counts no_scope numbered h lt fits none in
    let len : length (chain_inside a scopes n no_scope) ≡ 0 = ap length is in
    let was : now + length (chain_inside a scopes n no_scope) + 1 ≤ before + length
    (chain_of a scopes) +
    1 = w.calls in
    let at = number-at 0 (length scopes) n scopes no_scope numbered lt in
    let number : (get_or scopes n no_scope).number ≡ 0 + n = at.0 in
    let zeroth : (get_or scopes n no_scope).number ≡ n = omega arith in (
      sym (ap (option_map (λ s. s.number))
          (w.last_is ∙ ap (λ (ss : List Scope). last (get_or scopes n no_scope ∷ ss)) is)
          ∙ ap Some zeroth),
      omega arith,
    )

pub walk-none : (rows a before now : ℕ) (scopes : List Scope) (counts : List ℕ)
    → AreNumbered 0 (length scopes) scopes
    → IsActiveAt rows scopes a counts
    → IsFirstIn (is_filled counts) rows (rows + length scopes) None → now ≤ before + 1
    → (None ≡ scope_at scopes a) × (now ≤ before + length (chain_of a scopes) + 1)
walk-none rows a before now scopes counts numbered h none le =
    let is = chain-none rows a scopes counts no_scope numbered h none in
    (sym (ap (λ (ss : List Scope). option_map (λ s. s.number) (last ss)) is), omega arith)

-- ---- the same for the numbers of the program

pub numbered-all : (total : ℕ) (scopes : List Scope) → total ≡ length scopes
    → AreNumbered 0 total scopes
    → AreNumbered 0 (length scopes) scopes
numbered-all total scopes is h = let N : ℕ → Type 0 = λ t. AreNumbered 0 t scopes in subst N is h

pub start-walk : (rows total a key n limit before now : ℕ) (scopes : List Scope) (counts : List ℕ)
    → total ≡ length scopes
    → AreNumbered 0 total scopes → IsActiveBelow rows scopes limit a counts → n < limit
    → IsFirstIn (is_filled counts) rows (rows + total) (Some key) → key ≡ rows + n
    → now ≤ before + 1 → IsWalked a scopes n before now
start-walk rows total a key n limit before now scopes counts is numbered h under found key_is le =
    let T : ℕ → Type 0 = λ t. IsFirstIn (is_filled counts) rows (rows + t) (Some key) in
    let K : ℕ → Type 0 = λ k. IsFirstIn (is_filled counts) rows (rows + length scopes) (Some k) in
    walk-start rows a n limit before now scopes counts (numbered-all total scopes is numbered) h
    under (subst K key_is (subst T is found)) le

pub no-walk : (rows total a before now : ℕ) (scopes : List Scope) (counts : List ℕ)
    → total ≡ length scopes → AreNumbered 0 total scopes
    → IsActiveAt rows scopes a counts
    → IsFirstIn (is_filled counts) rows (rows + total) None → now ≤ before + 1
    → (None ≡ scope_at scopes a) × (now ≤ before + length (chain_of a scopes) + 1)
no-walk rows total a before now scopes counts is numbered h none le =
    let T : ℕ → Type 0 = λ t. IsFirstIn (is_filled counts) rows (rows + t) None in
    walk-none rows a before now scopes counts (numbered-all total scopes is numbered) h
    (subst T is none) le

pub more-walk : (rows total a key n m past limit before now after : ℕ) (scopes : List Scope)
    (counts counts' : List ℕ) → total ≡ length scopes
    → AreNumbered 0 total scopes → IsActiveBelow rows scopes limit a counts → n < total → m < limit
    → counts' ≡ counts
    → past ≡ (get_or scopes n no_scope).«end»
    → IsFirstIn (is_filled counts') (rows + total + n + 1) (rows + total + past) (Some key)
    → key ≡ rows + total + m → IsWalked a scopes n before now → after ≤ now + 1
    → IsWalked a scopes m before after
more-walk rows total a key n m past limit before now after scopes counts counts' is numbered h lt
    under same past_is found key_is w le =
    let C : List ℕ → Type 0 = λ cs. IsFirstIn (is_filled cs) (rows + total + n + 1)
    (rows + total + past) (Some key) in
    let K : ℕ → Type 0 = λ k. IsFirstIn (is_filled counts) (rows + total + n + 1)
    (rows + total + past) (Some k) in
    let P : ℕ → Type 0 = λ e. IsFirstIn (is_filled counts) (rows + total + n + 1) (rows + total + e)
    (Some (rows + total + m)) in
    let T : ℕ → Type 0 =
    λ t. IsFirstIn (is_filled counts) (rows + t + n + 1)
    (rows + t + (get_or scopes n no_scope).«end») (Some (rows + t + m)) in
    walk-more rows a n m limit before now after scopes counts
    (numbered-all total scopes is numbered) h (omega arith) under
    (subst T is (subst P past_is (subst K key_is (subst C same found)))) w le

pub end-walk : (rows total a n past limit before now after : ℕ) (scopes : List Scope)
    (counts counts' : List ℕ) → total ≡ length scopes
    → AreNumbered 0 total scopes → IsActiveBelow rows scopes limit a counts → n < total
    → past ≤ limit → counts' ≡ counts → past ≡ (get_or scopes n no_scope).«end»
    → IsFirstIn (is_filled counts') (rows + total + n + 1) (rows + total + past) None
    → IsWalked a scopes n before now → after ≤ now + 1
    → (Some n ≡ scope_at scopes a) × (after ≤ before + length (chain_of a scopes) + 1)
end-walk rows total a n past limit before now after scopes counts counts' is numbered h lt fits same
    past_is none w le =
    let C : List ℕ → Type 0 = λ cs. IsFirstIn (is_filled cs) (rows + total + n + 1)
    (rows + total + past) None in
    let P : ℕ → Type 0 = λ e. IsFirstIn (is_filled counts) (rows + total + n + 1) (rows + total + e)
    None in
    let T : ℕ → Type 0 = λ t. IsFirstIn (is_filled counts) (rows + t + n + 1)
    (rows + t + (get_or scopes n no_scope).«end») None in
    walk-end rows a n limit before now after scopes counts (numbered-all total scopes is numbered)
    h (omega arith) (omega arith)
    (subst T is (subst P past_is (subst C same none))) w le

-- the end of a scope is within the list
pub end-within : (total n : ℕ) (scopes : List Scope) → AreNumbered 0 total scopes
    → n < length scopes
    → (n < (get_or scopes n no_scope).«end») × ((get_or scopes n no_scope).«end» ≤ total)
end-within total n scopes h lt =
    let at = number-at 0 total n scopes no_scope h lt in
    let low : 0 + n < (get_or scopes n no_scope).«end» = at.1 in (omega arith, at.2)
