-- The innermost scope stays the same until a range of a watched scope starts or ends.
use Rattle.std.proofs.Common.{◌≡◌, ◌≢◌, ◌∙◌, ℕ, ◌+◌, ◌<◌, ◌≤◌, List, length}
use Rattle.std.proofs.Common.{get_or, Bool, true, false, ◌&&◌, ◌||◌, refl, ap, sym, arith}
use Rattle.std.specs.Prelude.{Option, Some, None, IfSome, nat_le, nat_lt}
use Rattle.std.proofs.lemmas.Bool.{false≢true}
use Rattle.std.proofs.lemmas.Bool.Decides.{nat_tests}
use Rattle.std.proofs.lemmas.List.{get_or_default}
use Rattle.dwarf_entries.specs.Scopes.{Scope}
use Rattle.dwarf_entries.specs.Order.{AreNumbered}
use Rattle.addr_table.specs.declared.watched_scopes.WatchedScopes.{WatchedScopes}
use Rattle.addr_table.specs.Places.{scope_at}
use Rattle.addr_table.specs.Private.Bits.{is_filled}
use Rattle.addr_table.specs.Private.Active.{ActiveSet}
use Rattle.addr_table.specs.Private.Sweep.{IsActiveAt, IsLimit, IsInnermost}
use Rattle.addr_table.specs.Private.Sweep.{IsWatching, is_watched, AreUnwatched}
use Rattle.addr_table.proofs.Chains.ChainWalks.{no_scope, end-within}

-- ---- the innermost scope and its limit

-- The limit is within the list, so the scope is the innermost one at every address that has these
-- active keys.
pub innermost-at : (rows : ℕ) (scopes : List Scope) (counts : List ℕ) (scope : Option ℕ) (e : ℕ)
    → AreNumbered 0 (length scopes) scopes → IfSome scope (λ n. n < length scopes)
    → IsInnermost rows scopes counts scope → IsActiveAt rows scopes e counts
    → scope ≡ scope_at scopes e
innermost-at rows scopes counts None e numbered within found at = found (length scopes) e refl at
innermost-at rows scopes counts (Some n) e numbered within found at =
    let fits : (get_or scopes n no_scope).«end» ≤ length scopes =
    (end-within (length scopes) n scopes numbered within).1 in
    found (get_or scopes n no_scope).«end» e
    (λ d. ap (λ (s : Scope). s.«end») (get_or_default scopes n no_scope d within))
    (record {
      subprograms = λ k lt. at.subprograms k (omega (arith, lt, fits));
      inlined = λ k lt. at.inlined k (omega (arith, lt, fits));
    })

one-limit : (scopes : List Scope) (scope : Option ℕ) (a b : ℕ) → IsLimit scopes scope a
    → IsLimit scopes scope b → a ≡ b
one-limit scopes None a b is same = is ∙ sym same
one-limit scopes (Some n) a b is same = is no_scope ∙ sym (same no_scope)

-- ---- the keys of watched scopes

or_true : (b : Bool) → (b || true) ≡ true
or_true true = refl
or_true false = refl

subprogram-watched : (rows n : ℕ) (w : WatchedScopes) → w.rows ≡ rows → n < w.limit
    → is_watched w (rows + n) ≡ true
subprogram-watched rows n w is lt =
    let low : nat_le w.rows (rows + n) ≡ true = grind (arith, nat_tests) in
    let high : nat_lt (rows + n) (w.rows + w.limit) ≡ true = grind (arith, nat_tests) in
    rw (low, high) refl

inlined-watched : (rows total n : ℕ) (w : WatchedScopes) → w.rows ≡ rows → w.total ≡ total
    → n < w.limit → is_watched w (rows + total + n) ≡ true
inlined-watched rows total n w is all lt =
    let low : nat_le (w.rows + w.total) (rows + total + n) ≡ true = grind (arith, nat_tests) in
    let high : nat_lt (rows + total + n) (w.rows + w.total + w.limit) ≡ true =
    grind (arith, nat_tests) in
    rw (low, high) (or_true (nat_le w.rows (rows + total + n)
    && nat_lt (rows + total + n) (w.rows + w.limit)))

-- ---- the scope stays the innermost one

pub same-innermost : (rows : ℕ) (scopes : List Scope) (active active' : ActiveSet)
    (scope : Option ℕ) (w : WatchedScopes)
    → IsWatching rows scopes scope w → AreUnwatched w active active'
    → IsInnermost rows scopes active.counts scope → IsInnermost rows scopes active'.counts scope
same-innermost rows scopes active active' scope w watching unwatched found limit e is at =
    found limit e is (record {
      subprograms = λ n lt. same (rows + n)
          (subprogram-watched rows n w watching.rows_are (below n lt)) ∙ at.subprograms n lt;
      inlined = λ n lt. same (rows + length scopes + n)
          (inlined-watched rows (length scopes) n w watching.rows_are watching.total_is
          (below n lt)) ∙ at.inlined n lt;
    })
  where
    below : (n : ℕ) → n < limit → n < w.limit
    below n lt = let one : limit ≡ w.limit =
        one-limit scopes scope limit w.limit is watching.limit_is in omega (arith, lt, one)

    same : (k : ℕ) → is_watched w k ≡ true → is_filled active.counts k ≡ is_filled active'.counts k
    same k watched = ap (λ n. nat_lt 0 n) (sym (unwatched k watched))

-- a change of an unwatched key
pub innermost-kept : (rows : ℕ) (scopes : List Scope) (active active' : ActiveSet)
    (scope : Option ℕ) (w : WatchedScopes) (key : ℕ)
    → IsWatching rows scopes scope w → is_watched w key ≡ false
    → ((k : ℕ) → k ≢ key → get_or active'.counts k 0 ≡ get_or active.counts k 0)
    → IsInnermost rows scopes active.counts scope → IsInnermost rows scopes active'.counts scope
innermost-kept rows scopes active active' scope w key watching unwatched same found =
    same-innermost rows scopes active active' scope w watching
    (λ k watched. same k (λ e. false≢true (sym unwatched ∙ ap (is_watched w) (sym e) ∙ watched)))
    found
