-- The frames of an address, by the chain of the scopes that contain it.
use Rattle.std.proofs.Common.{◌≡◌, ℕ, ◌<◌, ◌≤◌, List, [], ◌∷◌, length, Bool, true, false, ◌++◌}
use Rattle.std.proofs.Common.{cond, ◌&&◌, ◌||◌, refl, ap, sym, ◌∙◌, subst, arith}
use Rattle.std.specs.Prelude.{Some, nat_lt, nat_le, filter}
use Rattle.std.specs.List.{list_any}
use Rattle.std.proofs.lemmas.List.Elements.{filter-append}
use Rattle.std.proofs.lemmas.Bool.Decides.{nat_tests}
use Rattle.dwarf_walk.specs.declared.scope_kind.ScopeKind.TheVariants.{Subprogram, Inlined}
use Rattle.dwarf_entries.specs.Scopes.{Scope}
use Rattle.dwarf_entries.specs.Order.{AreInOrder}
use Rattle.addr_table.specs.Chains.{is_at, chain_of, encloses, enclosing, chain_among}
use Rattle.addr_table.specs.Places.{last}
use Rattle.addr_table.proofs.FrameWalks.FrameLaws.{AllChosen, chain_of-filter, AllEnclose, of-all}
use Rattle.addr_table.proofs.FrameWalks.FrameLaws.{Enclosed}
use Rattle.addr_table.proofs.FrameWalks.FrameLaws.{empty}
use Rattle.addr_table.proofs.FrameWalks.FrameLaws.{whole, of-encloses}

-- ---- the theorem

enclosed-filter : (j : ℕ) (xs : List Scope) → AllEnclose j xs → AllChosen (encloses j) xs
enclosed-filter j [] h = tt
enclosed-filter j (s ∷ xs) h = (
  let low : s.number ≤ j = h.0.0 in let high : j < s.«end» = h.0.1 in
      grind (arith, nat_tests),
  enclosed-filter j xs h.1,
)

pub filtered-enclose : (j : ℕ) (xs : List Scope) → AllEnclose j (enclosing j xs)
filtered-enclose j [] = tt
filtered-enclose j (s ∷ xs) = cases (nat_le s.number j) (nat_lt j s.«end») refl refl
    (filtered-enclose j xs)
  where
    cases : (low high : Bool) → nat_le s.number j ≡ low → nat_lt j s.«end» ≡ high
        → AllEnclose j (enclosing j xs)
        → AllEnclose j (cond (low && high) (s ∷ enclosing j xs) (enclosing j xs))
    cases true true l h rest = (
      (
        (let a : s.number ≤ j = grind (arith, nat_tests) in a),
        (let b : j < s.«end» = grind (arith, nat_tests) in b),
      ),
      rest,
    )
    cases true false l h rest = rest
    cases false high l h rest = rest

-- The chain consists of scopes that enclose its last one: the first subprogram among them that
-- contains the address, and the inlined subroutines inside it that contain the address.
pub chain-enclosing : (a : ℕ) (scopes : List Scope) (t : Scope) → AreInOrder scopes
    → last (chain_of a scopes) ≡ Some t
    → chain_of a scopes ≡ chain_among a (enclosing t.number scopes)
chain-enclosing a scopes t order is = by
    (of-encloses a 0 (length scopes) scopes order.numbered order.nested)
  where
    from : AllEnclose t.number (chain_of a scopes)
        → chain_of a scopes ≡ chain_among a (enclosing t.number scopes)
    from all =
        sym (chain_of-filter (encloses t.number) a scopes
        (enclosed-filter t.number (chain_of a scopes) all))
        ∙ of-all a t.number (enclosing t.number scopes) (filtered-enclose t.number scopes)

    by : Enclosed (chain_of a scopes) → chain_of a scopes
        ≡ chain_among a (enclosing t.number scopes)
    by (empty nothing) = let never : last [] ≡ Some t = sym (ap last nothing) ∙ is in
        absurd (not_so never)
      where
        not_so : last {X = Scope} [] ≡ Some t → ⊥
        not_so e = cc
    by (whole u last_is all) =
        let same : u ≡ t = the-same (sym last_is ∙ is) in
        let A : Scope → Type 0 = λ s. AllEnclose s.number (chain_of a scopes) in
        from (subst A same all)
      where
        the-same : {X : Type 0} {x y : X} → Some x ≡ Some y → x ≡ y
        the-same e = cc

-- ---- from the last scope to its parents

-- One more nested scope is in the chain if it is an inlined subroutine that contains the address
-- and a subprogram before it contains the address, or if it is the first subprogram that contains
-- the address.
pub chain-more : (a : ℕ) (xs : List Scope) (s : Scope)
    → chain_among a (xs ++ s ∷ []) ≡ cond (list_any (is_at Subprogram a) xs)
    (chain_among a xs ++ filter (is_at Inlined a) (s ∷ []))
    (chain_among a (s ∷ []))
chain-more a [] s = refl
chain-more a (x ∷ xs) s = cases (is_at Subprogram a x) (chain-more a xs s)
  where
    cases : (b : Bool)
        → chain_among a (xs ++ s ∷ []) ≡ cond (list_any (is_at Subprogram a) xs)
        (chain_among a xs ++ filter (is_at Inlined a) (s ∷ []))
        (chain_among a (s ∷ []))
        → cond b (x ∷ filter (is_at Inlined a) (xs ++ s ∷ [])) (chain_among a (xs ++ s ∷ [])) ≡
        cond (b || list_any (is_at Subprogram a) xs)
        (cond b (x ∷ filter (is_at Inlined a) xs) (chain_among a xs)
        ++ filter (is_at Inlined a) (s ∷ [])) (chain_among a (s ∷ []))
    cases true rest = ap (λ (zs : List Scope). x ∷ zs) (filter-append (is_at Inlined a) xs (s ∷ []))
    cases false rest = rest
