use Rattle.dwarf_entries.proofs
use proofs.{◌≡◌, ℕ, zero, suc, ◌+◌, List, [], ◌∷◌, length, take, refl, arith, Some, All, slice_get}
use proofs.{count_by, All-nil, All-cons, All-weaker, Die, is_scope, Root, CompilationUnit}
use proofs.{stmt_list_of, root_of, roots_from, first_number, number_of_scopes, All-contains}
use proofs.{first-rises, before-later, tree-parts, scope-at, contained, first-next, all-sites-count}
use proofs.{dies-rise, roots-part, root_in, scopes-count, rise-order, number-cons}
use Rattle.dwarf_entries.proofs.tree_laws.roots_partition_scopes.Goals as goal

-- A root is that of a unit with entries.
record IsRootOf (us : List CompilationUnit) (number unit : ℕ) (of : CompilationUnit) (die : Die)
    (root : Root) : Type 0 where
  pub of_is : slice_get us unit ≡ Some of
  pub die_is : slice_get of.dies 0 ≡ Some die
  pub offset_is : root.offset ≡ die.offset
  pub stmt_list_is : root.stmt_list ≡ stmt_list_of of.dies
  pub first_is : root.first ≡ number + first_number us unit
  pub past_is : root.past ≡ root.first + count_by is_scope of.dies

abbrev HasUnit : List CompilationUnit → ℕ → Root → Type 0
HasUnit us number root =
    (unit : ℕ) × (of : CompilationUnit) × (die : Die) × IsRootOf us number unit of die root

roots-of : (number : ℕ) (us : List CompilationUnit) → All (HasUnit us number) (roots_from number us)
roots-of number [] = All-nil (HasUnit [] number)
roots-of number (u ∷ us) =
    by_dies u.dies refl (All-weaker (HasUnit us past) (HasUnit (u ∷ us) number) (λ root at.
    (suc at.0, at.1, at.2, grind (arith, at.3, number-cons u (take at.0 us))))
    (roots_from past us) (roots-of past us))
  where
    past : ℕ
    past = number + count_by is_scope u.dies

    by_dies : (dies : List Die) → u.dies ≡ dies → All (HasUnit (u ∷ us) number) (roots_from past us)
        → All (HasUnit (u ∷ us) number) (root_of number past dies (roots_from past us))
    by_dies [] is rest = rest
    by_dies (die ∷ dies) is rest =
        let none : first_number (u ∷ us) zero ≡ 0 = refl in
        All-cons (HasUnit (u ∷ us) number) _ (roots_from past us)
        (zero, u, die, grind (arith, is, none)) rest

-- ---- the theorems

pub returns-clause-parts : goal.returns-clause-parts
returns-clause-parts c s tree h =
    let t = tree-parts s tree h in
    let count : length tree.scopes ≡ 0 + number_of_scopes t.0 =
    omega (arith, scopes-count t.1, all-sites-count t.0) in
    rw (t.1.roots_are, count) (roots-part 0 t.0)

pub returns-clause-scopes : goal.returns-clause-scopes
returns-clause-scopes c s tree root scope h root_in scope_in from until =
    let t = tree-parts s tree h in
    let us = t.0 in
    let found = All-contains (HasUnit us 0) (roots_from 0 us) root (roots-of 0 us)
    (rw t.1.roots_are at root_in) in
    let r = found.3 in
    let j = contained tree.scopes scope scope_in in
    let x = scope-at t.1 j.0 scope j.1 in
    let next = first-next us found.0 found.1 r.of_is in
    let later = before-later x.place.2 found.0 in
    let rises = first-rises us (found.0 + 1) x.place.0 in
    let e : x.place.0 ≡ found.0 = grind (arith, x.number_is, x.place.2, r) in
    let same : x.site.member.unit ≡ found.1 = grind (arith, x.place.2.unit_is, r.of_is) in
    let there = rw same at x.place.2.there in
    let rise = rise-order found.1.header.start found.1.header.end found.1.dies 0 x.place.1 found.2
    x.site.member.die (dies-rise (t.1.are.each_is found.0 found.1 r.of_is)) r.die_is
    there in
    grind (arith, x.stmt_list_is, x.end_is, x.offset_is, r, before-later)
