-- The order of scope sites, of their entries, and of the scopes of an object: the number of each is
-- its index, and a scope that starts inside another one also ends inside it.
use Rattle.dwarf_entries.proofs.Common
use Common.{◌≡◌, ℕ, zero, suc, ◌+◌, ◌<◌, ◌≤◌, cond, List, [], ◌∷◌, take, ap, arith, ◌↔◌, Some}
use Common.{slice_get, is_some, count_by, slice_get_within, Die, IsBelow, RiseWithin}
use Common.{is_scope, Sections, CompilationUnit, ScopeSite, first_number, sum_by-take-le}
use Common.{length, get_or, refl, Ok, slice_get-get_or, Scope, Tree, tree_of}
use Common.{AreNumbered, AreInOrder, take-take, recursion_from_All, AreNested}
use Rattle.dwarf_entries.proofs.OriginChains.ReferenceLaws.{within-le}
use Rattle.dwarf_entries.proofs.Results.BelowLaws.{counted-rises, ends-are}
use Rattle.dwarf_entries.proofs.Results.BelowLaws.{ends-within, past_below, scopes-between}
use Rattle.dwarf_entries.proofs.Results.TreeParts.{scope-at, scopes-count, tree-parts}
use Rattle.dwarf_entries.proofs.ScopePasses.SiteLaws.{IsSiteAt, first-all, first-next}
use Rattle.dwarf_entries.proofs.UnitPasses.UnitLaws.{AreUnitsIn, dies-rise}

-- ---- the order of numbers

pub first-rises : (us : List CompilationUnit) (i j : ℕ) → i ≤ j
    → first_number us i ≤ first_number us j
first-rises us i j le = rw (← take-take i j us le)
    (sum_by-take-le (λ (u : CompilationUnit). count_by is_scope u.dies) (take j us) i)

-- A scope ends before the scopes of any later unit.
pub before-later : {us : List CompilationUnit} {i k n : ℕ} {p : ScopeSite}
    → IsSiteAt us i k n p → (j : ℕ) → i < j → n + 1 + p.inside ≤ first_number us j
before-later {us} {i} {k} {p = p} at j lt =
    let dies : List Die = p.member.unit.dies in
    let ends = ends-are dies k p.member.die at.there (ap is_some at.kind_is) in
    let few = sum_by-take-le (λ (x : Die). cond (is_scope x) 1 0) dies
    (past_below dies k p.member.die) in
    let next = first-next us i p.member.unit at.unit_is in
    let rises = first-rises us (i + 1) j (omega (arith, lt)) in
    omega (arith, at.number_is, at.inside_is, ends, few, next, rises)

-- ---- the order of offsets

pub rise-at : (from end : ℕ) (dies : List Die) (k : ℕ) (d : Die) → RiseWithin from end dies
    → slice_get dies k ≡ Some d → (from ≤ d.offset) × (d.offset < end)
rise-at from end [] k d rise h = cc
rise-at from end (x ∷ dies) zero d rise h = grind (arith, within-le)
rise-at from end (x ∷ dies) (suc k) d rise h =
    grind (arith, rise-at (suc x.offset) end dies k d rise.1 h)

pub rise-order : (from end : ℕ) (dies : List Die) (i j : ℕ) (d e : Die) → RiseWithin from end dies
    → slice_get dies i ≡ Some d → slice_get dies j ≡ Some e → i < j → d.offset < e.offset
rise-order from end [] i j d e rise d_is e_is lt = cc
rise-order from end (x ∷ dies) i zero d e rise d_is e_is lt = absurd (omega (arith, lt))
rise-order from end (x ∷ dies) zero (suc j) d e rise d_is e_is lt = grind (arith, rise-at)
rise-order from end (x ∷ dies) (suc i) (suc j) d e rise d_is e_is lt =
    rise-order (suc x.offset) end dies i j d e rise.1 d_is e_is (omega (arith, lt))

-- A site is within its unit.
pub site-within : {s : Sections} {us : List CompilationUnit} {i k n : ℕ} {p : ScopeSite}
    → AreUnitsIn s us → IsSiteAt us i k n p
    → (p.member.unit.header.start ≤ p.member.die.offset)
    × (p.member.die.offset < p.member.unit.header.end)
site-within {i = i} {k} {p = p} are a =
    rise-at p.member.unit.header.start p.member.unit.header.end p.member.unit.dies k p.member.die
    (dies-rise (are.each_is i p.member.unit a.unit_is)) a.there

-- ---- two sites

module _ {us : List CompilationUnit} {i j k l n m : ℕ} {p q : ScopeSite}
    (a : IsSiteAt us i k n p) (b : IsSiteAt us j l m q) where
  -- A site of the same unit as another is at its index there.
  there-too : i ≡ j → slice_get p.member.unit.dies l ≡ Some q.member.die
  there-too e = grind (arith, a.unit_is, b.unit_is, b.there)

  -- A site is below another in the same unit if and only if its number is between the other's
  -- number and end.
  pub sites-below : ((i ≡ j) × IsBelow p.member.unit.dies l k) ↔ ((n < m) × (m < n + 1 + p.inside))
  sites-below =
      let past = before-later a j in
      let before = before-later b i in
      let between = λ (e : i ≡ j). scopes-between p.member.unit.dies k l p.member.die q.member.die
      a.there (there-too e) (ap is_some a.kind_is) (ap is_some b.kind_is) in
      grind arith

  -- The offsets of sites are strictly increasing.
  pub sites-rise : {s : Sections} → AreUnitsIn s us → n < m
      → p.member.die.offset < q.member.die.offset
  sites-rise are less =
      let rise = rise-order q.member.unit.header.start q.member.unit.header.end q.member.unit.dies
      k l p.member.die q.member.die (dies-rise (are.each_is j q.member.unit b.unit_is)) in
      let counts = counted-rises is_scope p.member.unit.dies l k in
      let past = before-later b i in
      let first = site-within are a in
      grind (arith, a, b, site-within)

-- ---- the order of scopes

numbered : (m total : ℕ) (ss : List Scope) → m + length ss ≡ total
    → ((i : ℕ) (s : Scope) → slice_get ss i ≡ Some s
    → (s.number ≡ m + i) × (s.number < s.«end») × (s.«end» ≤ total)) → AreNumbered m total ss
numbered m total [] size at = omega (arith, size)
numbered m total (s ∷ ss) size at =
    let here = at 0 s refl in
    let rest = numbered (suc m) total ss (omega (arith, size))
    (λ i t found. grind (arith, at (suc i) t found)) in
    grind (arith, here)

nested : (ss : List Scope) → ((i j : ℕ) (s t : Scope) → slice_get ss i ≡ Some s
    → slice_get ss j ≡ Some t → i < j → t.number < s.«end» → t.«end» ≤ s.«end») → AreNested ss
nested [] at = tt
nested (s ∷ ss) at = (
  recursion_from_All (λ (t : Scope). t.number < s.«end» → t.«end» ≤ s.«end») ss (λ k d lt.
      at 0 (suc k) s (get_or ss k d) refl (slice_get-get_or ss k d lt) (omega arith)),
  nested ss (λ i j t u first second lt. at (suc i) (suc j) t u first second (omega (arith, lt))),
)

-- A scope that starts inside another one also ends inside it.
sites-nest : {us : List CompilationUnit} {i j k l n m : ℕ} {p q : ScopeSite}
    (a : IsSiteAt us i k n p) (b : IsSiteAt us j l m q) → n < m → m < n + 1 + p.inside
    → m + 1 + q.inside ≤ n + 1 + p.inside
sites-nest {k = k} {l} {p = p} {q = q} a b lt within =
    let under = (sites-below a b).1 (lt, within) in
    let ends = ends-within p.member.unit.dies k l p.member.die q.member.die a.there
    (there-too a b under.0) (ap is_some a.kind_is) (ap is_some b.kind_is) under.1 in
    grind (arith, a, b, under.0)

pub scopes-in-order : (s : Sections) (tree : Tree) → tree_of s ≡ Ok tree → AreInOrder tree.scopes
scopes-in-order s tree h =
    let t = tree-parts s tree h in
    let us = t.0 in
    let at = scope-at t.1 in
    record {
      numbered = numbered 0 (length tree.scopes) tree.scopes (omega arith) (λ i scope found.
          let x = at i scope found in
          let last = before-later x.place.2 (length us)
          (slice_get_within us x.place.0 x.site.member.unit x.place.2.unit_is) in
          grind (arith, x.number_is, x.end_is, scopes-count t.1, first-all));
      nested = nested tree.scopes (λ i j outer inner outer_is inner_is lt inside.
          let x = at i outer outer_is in
          let y = at j inner inner_is in
          let ends = sites-nest x.place.2 y.place.2 lt
          (omega (arith, inside, y.number_is, x.end_is)) in
          omega (arith, ends, y.end_is, x.end_is));
    }
