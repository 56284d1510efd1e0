-- One step from a scope to its parent, and the outermost scope of a chain.
use Rattle.std.proofs.Common.{◌≡◌, ◌≢◌, ◌∙◌, ℕ, zero, suc, ◌<◌, ◌≤◌, List, [], ◌∷◌, ◌++◌, length}
use Rattle.std.proofs.Common.{get_or, Bool, true, false, cond, ◌||◌, refl, sym, ap, subst, arith}
use Rattle.std.proofs.Common.{zero-add}
use Rattle.std.specs.Prelude.{Option, Some, None, option_map, find, filter}
use Rattle.std.specs.Option.{option_or}
use Rattle.std.specs.List.{AllByRecursion, list_any}
use Rattle.std.proofs.lemmas.List.Folds.{find-append}
use Rattle.dwarf_walk.specs.declared.scope_kind.ScopeKind.TheVariants.{Subprogram, Inlined}
use Rattle.dwarf_entries.specs.Scopes.{Scope}
use Rattle.addr_table.specs.Chains.{is_at, enclosing, chain_among}
use Rattle.addr_table.specs.Private.Parents.{enclosing_at, IsParent}
use Rattle.addr_table.specs.Private.Walks.{HaveParents, chain_at, top_at}
use Rattle.addr_table.proofs.FrameWalks.FrameChains.{chain-more, filtered-enclose}
use Rattle.addr_table.proofs.Chains.ParentSearch.{number-there}

-- ---- searches among scopes

find-none : {X : Type 0} (p : X → Bool) (xs : List X) → find p xs ≡ None → list_any p xs ≡ false
find-none p [] h = refl
find-none p (x ∷ xs) h = cases (p x) h (find-none p xs)
  where
    cases : (b : Bool) → cond b (Some x) (find p xs) ≡ None
        → (find p xs ≡ None → list_any p xs ≡ false) → (b || list_any p xs) ≡ false
    cases true h rest = cc
    cases false h rest = rest h

find-some : {X : Type 0} (p : X → Bool) (xs : List X) (t : X) → find p xs ≡ Some t
    → list_any p xs ≡ true
find-some p [] t h = cc
find-some p (x ∷ xs) t h = cases (p x) h (find-some p xs t)
  where
    cases : (b : Bool) → cond b (Some x) (find p xs) ≡ Some t
        → (find p xs ≡ Some t → list_any p xs ≡ true) → (b || list_any p xs) ≡ true
    cases true h rest = refl
    cases false h rest = rest h

the-same : {X : Type 0} {x y : X} → Some x ≡ Some y → x ≡ y
the-same e = cc

find-all : {X : Type 0} (P : X → Type 0) (p : X → Bool) (xs : List X) (t : X) → AllByRecursion P xs
    → find p xs ≡ Some t → P t
find-all P p [] t all h = cc
find-all P p (x ∷ xs) t all h = cases (p x) h (find-all P p xs t all.1)
  where
    cases : (b : Bool) → cond b (Some x) (find p xs) ≡ Some t → (find p xs ≡ Some t → P t) → P t
    cases true h rest = subst P (the-same h) all.0
    cases false h rest = rest h

pub chain-none : (a : ℕ) (xs : List Scope) → find (is_at Subprogram a) xs ≡ None
    → chain_among a xs ≡ []
chain-none a [] h = refl
chain-none a (s ∷ xs) h = cases (is_at Subprogram a s) h (chain-none a xs)
  where
    cases : (b : Bool) → cond b (Some s) (find (is_at Subprogram a) xs) ≡ None
        → (find (is_at Subprogram a) xs ≡ None → chain_among a xs ≡ [])
        → cond b (s ∷ filter (is_at Inlined a) xs) (chain_among a xs) ≡ []
    cases true h rest = cc
    cases false h rest = rest h

pub chain-some : (a : ℕ) (xs : List Scope) (t : Scope) → find (is_at Subprogram a) xs ≡ Some t
    → (inner : List Scope) × (chain_among a xs ≡ t ∷ inner)
chain-some a [] t h = cc
chain-some a (s ∷ xs) t h = cases (is_at Subprogram a s) h (chain-some a xs t)
  where
    cases : (b : Bool) → cond b (Some s) (find (is_at Subprogram a) xs) ≡ Some t
        → (find (is_at Subprogram a) xs ≡ Some t
        → (inner : List Scope) × (chain_among a xs ≡ t ∷ inner))
        → (inner : List Scope) × (cond b (s ∷ filter (is_at Inlined a) xs) (chain_among a xs) ≡ t
        ∷ inner)
    cases true h rest = (
      filter (is_at Inlined a) xs,
      ap (λ z. z ∷ filter (is_at Inlined a) xs)
          (the-same h),
    )
    cases false h rest = rest h

-- ---- one step to the parent

-- the scopes of `enclosing_at` for a number have lower numbers
enclosing_at-below : (a p : ℕ) (scopes : List Scope) (t : Scope)
    → find (is_at Subprogram a) (enclosing_at scopes p) ≡ Some t → t.number < p
enclosing_at-below a zero scopes t h = cc
enclosing_at-below a (suc k) scopes t h =
    let e : (t.number ≤ k) × (k < t.«end») =
    find-all (λ s. (s.number ≤ k) × (k < s.«end»)) (is_at Subprogram a) (enclosing k scopes) t
    (filtered-enclose k scopes) h in
    let le : t.number ≤ k = e.0 in omega arith

pub found-more : (a : ℕ) (xs : List Scope) (s : Scope)
    → find (is_at Subprogram a) (xs ++ s ∷ []) ≡ option_or (find (is_at Subprogram a) xs)
    (cond (is_at Subprogram a s) (Some s) None)
found-more a xs s = find-append (is_at Subprogram a) xs (s ∷ [])

abbrev pub number_in : Option Scope → Option ℕ
number_in = option_map (λ s. s.number)

-- scope k is the outermost scope of the chain
pub step-top : (a : ℕ) (scopes : List Scope) (codes : List ℕ) (k code : ℕ) (d : Scope)
    → HaveParents scopes codes → k < length scopes
    → code ≡ suc k → top_at a scopes code ≡ Some k
    → chain_at a scopes code ≡ get_or scopes k d ∷ []
step-top a scopes codes k code d have lt is top =
    subst (λ (n : ℕ). chain_at a scopes n ≡ get_or scopes k d ∷ []) (sym is) here
  where
    parent : IsParent scopes k (get_or codes k 0)
    parent = have.parents k (let all : length codes ≡ length scopes = have.all in omega arith)

    outer : List Scope
    outer = enclosing_at scopes (get_or codes k 0)

    split : enclosing k scopes ≡ enclosing_at scopes (get_or codes k 0) ++ get_or scopes k d ∷ []
    split = parent.enclosing_is d

    top_here : number_in
        (option_or (find (is_at Subprogram a) (enclosing_at scopes (get_or codes k 0)))
        (cond (is_at Subprogram a (get_or scopes k d)) (Some (get_or scopes k d)) None)) ≡ Some k
    top_here =
        sym (ap number_in (found-more a (enclosing_at scopes (get_or codes k 0))
        (get_or scopes k d)))
        ∙ (sym (ap (λ (xs : List Scope). number_in (find (is_at Subprogram a) xs)) split)
        ∙ subst (λ (n : ℕ). top_at a scopes n ≡ Some k) is top)

    by : (o : Option Scope) → find (is_at Subprogram a) (enclosing_at scopes (get_or codes k 0)) ≡ o
        → (b : Bool)
        → is_at Subprogram a (get_or scopes k d) ≡ b
        → number_in (option_or o (cond b (Some (get_or scopes k d)) None)) ≡ Some k
        → chain_among a (enclosing_at scopes (get_or codes k 0) ++ get_or scopes k d ∷ [])
        ≡ get_or scopes k d ∷ []
    by None f true t h =
        chain-more a (enclosing_at scopes (get_or codes k 0)) (get_or scopes k d)
        ∙ (rw (find-none (is_at Subprogram a) (enclosing_at scopes (get_or codes k 0)) f, t) refl)
    by None f false t h = cc
    by (Some u) f b t h =
        let number : u.number ≡ k = the-same h in
        let below : u.number < get_or codes k 0 =
        enclosing_at-below a (get_or codes k 0) scopes u f in
        let low : get_or codes k 0 ≤ k = parent.code_is in
        absurd (omega arith)

    here : chain_at a scopes (suc k) ≡ get_or scopes k d ∷ []
    here =
        ap (chain_among a) split
        ∙ by (find (is_at Subprogram a) (enclosing_at scopes (get_or codes k 0))) refl
        (is_at Subprogram a (get_or scopes k d)) refl top_here

-- the chain after a step from a scope that is not the outermost one
pub record Outer (a : ℕ) (scopes : List Scope) (k p code top : ℕ) : Type 0 where
  pub top_is : top_at a scopes p ≡ Some top
  pub low : p ≤ k
  pub chain_is : (d : Scope) → chain_at a scopes code ≡ chain_at a scopes p
      ++ filter (is_at Inlined a) (get_or scopes k d ∷ [])

pub step-outer : (a : ℕ) (scopes : List Scope) (codes : List ℕ) (k code top : ℕ)
    → HaveParents scopes codes → k < length scopes
    → code ≡ suc k → top_at a scopes code ≡ Some top → k ≢ top
    → Outer a scopes k (get_or codes k 0) code top
step-outer a scopes codes k code top have lt is returned other = record {
  top_is =
      (by_d (record {
        kind = Subprogram;
        offset = 0;
        number = 0;
        «end» = 0;
        ranges = [];
        name = None;
        linkage_name = None;
        stmt_list = None;
        call_file = None;
        call_line = None;
      })).0;
  low = parent.code_is;
  chain_is = λ d. (by_d d).1;
}
  where
    parent : IsParent scopes k (get_or codes k 0)
    parent = have.parents k (let all : length codes ≡ length scopes = have.all in omega arith)

    by_d : (d : Scope)
        → (top_at a scopes (get_or codes k 0) ≡ Some top) ×
        (chain_at a scopes code ≡ chain_at a scopes (get_or codes k 0)
        ++ filter (is_at Inlined a) (get_or scopes k d ∷ []))
    by_d d =
        subst (λ (n : ℕ). (top_at a scopes (get_or codes k 0) ≡ Some top) ×
        (chain_at a scopes n ≡ chain_at a scopes (get_or codes k 0)
        ++ filter (is_at Inlined a) (get_or scopes k d ∷ [])))
        (sym is) here
      where
        split : enclosing k scopes ≡ enclosing_at scopes (get_or codes k 0)
            ++ get_or scopes k d ∷ []
        split = parent.enclosing_is d

        there : (get_or scopes k d).number ≡ k
        there = number-there 0 (length scopes) k scopes d have.order.numbered lt ∙ zero-add k

        top_here : number_in
            (option_or (find (is_at Subprogram a) (enclosing_at scopes (get_or codes k 0)))
            (cond (is_at Subprogram a (get_or scopes k d)) (Some (get_or scopes k d)) None))
            ≡ Some top
        top_here =
            sym (ap number_in (found-more a (enclosing_at scopes (get_or codes k 0))
            (get_or scopes k d)))
            ∙ (sym (ap (λ (xs : List Scope). number_in (find (is_at Subprogram a) xs)) split)
            ∙ subst (λ (n : ℕ). top_at a scopes n ≡ Some top) is returned)

        by : (o : Option Scope)
            → find (is_at Subprogram a) (enclosing_at scopes (get_or codes k 0)) ≡ o
            → (b : Bool)
            → number_in (option_or o (cond b (Some (get_or scopes k d)) None)) ≡ Some top
            → (number_in o ≡ Some top) ×
            (chain_among a (enclosing_at scopes (get_or codes k 0) ++ get_or scopes k d ∷ [])
            ≡ chain_among a (enclosing_at scopes (get_or codes k 0))
            ++ filter (is_at Inlined a) (get_or scopes k d ∷ []))
        by None f true h = absurd (other (sym there ∙ the-same h))
        by None f false h = cc
        by (Some u) f b h = (
          h,
          chain-more a (enclosing_at scopes (get_or codes k 0)) (get_or scopes k d)
              ∙ (rw (find-some (is_at Subprogram a) (enclosing_at scopes (get_or codes k 0)) u f)
              refl),
        )

        found : (number_in (find (is_at Subprogram a) (enclosing_at scopes (get_or codes k 0)))
            ≡ Some top) ×
            (chain_among a (enclosing_at scopes (get_or codes k 0) ++ get_or scopes k d ∷ [])
            ≡ chain_among a (enclosing_at scopes (get_or codes k 0))
            ++ filter (is_at Inlined a) (get_or scopes k d ∷ []))
        found = by (find (is_at Subprogram a) (enclosing_at scopes (get_or codes k 0))) refl
            (is_at Subprogram a (get_or scopes k d)) top_here

        here : (top_at a scopes (get_or codes k 0) ≡ Some top) ×
            (chain_at a scopes (suc k) ≡ chain_at a scopes (get_or codes k 0)
            ++ filter (is_at Inlined a) (get_or scopes k d ∷ []))
        here = (found.0, ap (chain_among a) split ∙ found.1)
