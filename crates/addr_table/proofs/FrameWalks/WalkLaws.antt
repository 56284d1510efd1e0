-- A walk over the scopes of a chain, from the innermost to the outermost.
use Rattle.std.proofs.Common.{◌≡◌, ◌≢◌, ◌∙◌, ℕ, suc, ◌<◌, ◌≤◌, List, [], ◌∷◌, ◌++◌, length}
use Rattle.std.proofs.Common.{reverse, get_or, true, false, nat_eq, refl, sym, ap, subst, inl, inr}
use Rattle.std.proofs.Common.{arith, append-nil}
use Rattle.std.specs.Prelude.{Some, None, filter}
use Rattle.std.proofs.lemmas.Bool.Decides.{nat_tests}
use Rattle.std.proofs.lemmas.List.{reverse-append}
use Rattle.dwarf_walk.specs.declared.scope_kind.ScopeKind.TheVariants.{Subprogram, Inlined}
use Rattle.dwarf_entries.specs.Scopes.{Scope}
use Rattle.addr_table.specs.Chains.{is_at}
use Rattle.addr_table.specs.Private.Walks.{HaveParents, chain_at, top_at, EndsAt, IsInChain}
use Rattle.addr_table.specs.Private.Walks.{nothing, outermost, inlined, outer_of, IsWalk}
use Rattle.addr_table.proofs.Chains.ParentWalkLaws.{Outer, step-outer, step-top}

-- ---- the next scope of the chain

outer-low : (a : ℕ) (scopes : List Scope) (k p code top : ℕ) → Outer a scopes k p code top
    → k < length scopes → p ≤ length scopes
outer-low a scopes k p code top h lt = let le : p ≤ k = h.low in omega arith

-- a scope that is not in the chain may be skipped
pub record Passed (a : ℕ) (scopes : List Scope) (code p top : ℕ) : Type 0 where
  pub within : p ≤ length scopes
  pub chain : chain_at a scopes p ≡ chain_at a scopes code
  pub ends : EndsAt a scopes p top

pub pass : (a : ℕ) (scopes : List Scope) (codes : List ℕ) (code k top : ℕ)
    → HaveParents scopes codes → code ≡ suc k → k < length scopes
    → EndsAt a scopes code top → k ≢ top
    → ((d : Scope) → is_at Inlined a (get_or scopes k d) ≡ false)
    → Passed a scopes code (get_or codes k 0) top
pass a scopes codes code k top have is lt ends other out = elim ends [
  | inl none ↦ absurd (omega arith)
  | inr returned ↦ passed k (get_or codes k 0)
      (step-outer a scopes codes k code top have lt is returned other) lt out
]
  where
    no_scope : Scope
    no_scope =
        record {
          kind = Subprogram;
          offset = 0;
          number = 0;
          «end» = 0;
          ranges = [];
          name = None;
          linkage_name = None;
          stmt_list = None;
          call_file = None;
          call_line = None;
        }

    none_of : (s : Scope) → is_at Inlined a s ≡ false → filter (is_at Inlined a) (s ∷ []) ≡ []
    none_of s h = rw h refl

    passed : (k p : ℕ) → Outer a scopes k p code top → k < length scopes
        → ((d : Scope) → is_at Inlined a (get_or scopes k d) ≡ false)
        → Passed a scopes code p top
    passed k p o lt out = record {
      within = outer-low a scopes k p code top o lt;
      chain =
          sym (o.chain_is no_scope ∙ (ap (λ (zs : List Scope). chain_at a scopes p ++ zs)
          (none_of (get_or scopes k no_scope) (out no_scope))
          ∙ append-nil (chain_at a scopes p)));
      ends = inr o.top_is;
    }

-- the next frame is of scope k, and its enclosing scopes remain
pub record IsNextFrame (a : ℕ) (scopes : List Scope) (codes : List ℕ) (start k top : ℕ)
    : Type 0 where
  pub walk : IsWalk scopes codes a (outer_of codes top k) top
  pub returned : (d : Scope)
      → reverse (chain_at a scopes start) ≡ get_or scopes k d
      ∷ reverse (chain_at a scopes (outer_of codes top k))

pub frame-taken : (a : ℕ) (scopes : List Scope) (codes : List ℕ) (start code k top : ℕ)
    → HaveParents scopes codes → code ≡ suc k → code ≤ length scopes
    → chain_at a scopes code ≡ chain_at a scopes start → EndsAt a scopes code top
    → IsInChain a scopes code top → IsNextFrame a scopes codes start k top
frame-taken a scopes codes start code k top have is le chain ends returned = by returned
  where
    last_one : k ≡ top → IsNextFrame a scopes codes start k top
    last_one top_is = elim ends [
      | inl none ↦ absurd (omega arith)
      | inr there ↦
          (let outer : outer_of codes top k ≡ 0 = out k top top_is in
          let there_k : top_at a scopes code ≡ Some k = there ∙ ap Some (sym top_is) in
          record {
            walk = rw outer (record { have = have; within = omega arith; ends = inl refl });
            returned =
                λ d. rw outer
                (ap (reverse {A = Scope})
                (sym chain ∙ step-top a scopes codes k code d have (omega arith) is there_k));
          })
    ]
      where
        out : (n t : ℕ) → n ≡ t → outer_of codes t n ≡ 0
        out n t e = let same : nat_eq n t ≡ true = grind (arith, nat_tests) in rw same refl

    inner : k ≢ top → ((d : Scope) → is_at Inlined a (get_or scopes k d) ≡ true)
        → IsNextFrame a scopes codes start k top
    inner other held = elim ends [
      | inl none ↦ absurd (omega arith)
      | inr there ↦
          (let o : Outer a scopes k (get_or codes k 0) code top =
          step-outer a scopes codes k code top have (omega arith) is there other in
          let outer : outer_of codes top k ≡ get_or codes k 0 = out in
          record {
            walk =
                rw outer
                (record {
                  have = have;
                  within =
                      outer-low a scopes k (get_or codes k 0) code top o (omega arith);
                  ends =
                      inr o.top_is;
                });
            returned =
                λ d. rw outer
                (ap (reverse {A = Scope}) (sym chain ∙ (o.chain_is d
                ∙ ap (λ (zs : List Scope). chain_at a scopes (get_or codes k 0) ++ zs)
                (one_of (get_or scopes k d) (held d))))
                ∙ reverse-append (chain_at a scopes (get_or codes k 0))
                (get_or scopes k d ∷ []));
          })
    ]
      where
        one_of : (s : Scope) → is_at Inlined a s ≡ true → filter (is_at Inlined a) (s ∷ []) ≡ s ∷ []
        one_of s h = rw h refl

        out : outer_of codes top k ≡ get_or codes k 0
        out = let same : nat_eq k top ≡ false = grind (arith, nat_tests) in rw same refl

    by : IsInChain a scopes code top → IsNextFrame a scopes codes start k top
    by (nothing e) = absurd (omega arith)
    by (outermost top_is) = last_one (omega arith)
    by (inlined j j_is other held) =
        let same : j ≡ k = omega arith in
        inner (subst (λ (n : ℕ). n ≢ top) same other)
        (subst (λ (n : ℕ). (d : Scope) → is_at Inlined a (get_or scopes n d) ≡ true) same held)
