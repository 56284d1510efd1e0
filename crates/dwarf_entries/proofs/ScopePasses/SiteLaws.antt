-- The scope sites of units, by their numbers.
use Rattle.dwarf_entries.proofs.Common
use Common.{CompilationUnit, Die, List, ScopeKind, ScopeSite, Some, [], add-one, all_sites, ap}
use Common.{arith, at-front, below, cases_lt, cond, count_by, drop, first_number}
use Common.{get_or_from_slice_get, inl, inr, is_scope, kind_of, length, length-append}
use Common.{number_of_scopes, refl, sites_in, slice_get, slice_get_within, suc, sum_by-cons}
use Common.{sum_by_more, sym, take, take_all, zero, ℕ, ◌++◌, ◌+◌, ◌-◌, ◌∙◌, ◌∷◌, ◌≡◌, ◌≤◌}
use Rattle.dwarf_entries.proofs.{Common.common_steps, UnitPasses.PassLaws.element}

-- ---- the sites of a unit

pub sites-count : (unit : CompilationUnit) (dies : List Die) → length (sites_in unit dies)
    ≡ count_by is_scope dies
sites-count unit [] = refl
sites-count unit (die ∷ dies) = grind (arith, common_steps, sites-count unit dies)

-- The site of an entry.
abbrev pub site_at : CompilationUnit → Die → List Die → ScopeKind → ScopeSite
site_at u die rest kind = record {
  member = record { unit = u; die = die };
  kind = kind;
  inside = count_by is_scope (below die rest);
}

-- The site with a number is a scope among the entries of its unit, at an index.
pub record IsSiteIn (u : CompilationUnit) (dies : List Die) (n index : ℕ) (p : ScopeSite) : Type 0
  where
    pub unit_is : p.member.unit ≡ u
    pub kind_is : kind_of p.member.die.tag ≡ Some p.kind
    pub there : slice_get dies index ≡ Some p.member.die
    pub number_is : n ≡ count_by is_scope (take index dies)
    pub inside_is : p.inside ≡ count_by is_scope (below p.member.die (drop (index + 1) dies))

-- The index of the scope with a number.
abbrev pub index_of : List Die → ℕ → ℕ
index_of [] n = 0
index_of (die ∷ dies) zero = cond (is_scope die) 0 (suc (index_of dies zero))
index_of (die ∷ dies) (suc n) = suc (index_of dies (cond (is_scope die) n (suc n)))

pub site-in : (u : CompilationUnit) (dies : List Die) (n : ℕ) (p : ScopeSite)
    → slice_get (sites_in u dies) n ≡ Some p → IsSiteIn u dies n (index_of dies n) p
site-in u [] n p h = cc
site-in u (die ∷ rest) zero p h = grind (arith, add-one, sum_by-cons, site-in u rest zero p)
site-in u (die ∷ rest) (suc n) p h =
    let later = site-in u rest n p in
    let same = site-in u rest (suc n) p in
    let sum = sum_by-cons (λ x. cond (is_scope x) 1 0) die (take (index_of rest n) rest) in
    let one : suc (index_of rest n) + 1 ≡ suc (index_of rest n + 1) = omega arith in
    grind arith

-- An entry that is a scope has the site with the number of scopes before it.
site-of : (u : CompilationUnit) (dies : List Die) (k : ℕ) (die : Die) (kind : ScopeKind)
    → slice_get dies k ≡ Some die → kind_of die.tag ≡ Some kind
    → slice_get (sites_in u dies) (count_by is_scope (take k dies))
    ≡ Some (site_at u die (drop (k + 1) dies) kind)
site-of u [] k die kind h is = cc
site-of u (d ∷ rest) zero die kind h is = grind arith
site-of u (d ∷ rest) (suc k) die kind h is =
    let sum = sum_by-cons (λ x. cond (is_scope x) 1 0) d (take k rest) in
    grind (arith, site-of u rest k die kind h is)

-- ---- the sites of all units

pub number-cons : (u : CompilationUnit) (us : List CompilationUnit)
    → number_of_scopes (u ∷ us) ≡ count_by is_scope u.dies + number_of_scopes us
number-cons = sum_by-cons (λ (v : CompilationUnit). count_by is_scope v.dies)

pub all-sites-count : (us : List CompilationUnit) → length (all_sites us) ≡ number_of_scopes us
all-sites-count [] = refl
all-sites-count (u ∷ us) =
    grind (arith, length-append, number-cons, sites-count, all-sites-count us)

pub first-all : (us : List CompilationUnit) (i : ℕ) → length us ≤ i
    → first_number us i ≡ length (all_sites us)
first-all us i past = ap number_of_scopes (take_all i us past) ∙ sym (all-sites-count us)

-- The number of the first scope of the next unit.
pub first-next : (us : List CompilationUnit) (i : ℕ) (u : CompilationUnit) → slice_get us i ≡ Some u
    → first_number us (i + 1) ≡ first_number us i + count_by is_scope u.dies
first-next us i u found =
    sum_by_more (λ (v : CompilationUnit). count_by is_scope v.dies) us i u
    (slice_get_within us i u found) ∙ rw (get_or_from_slice_get us i u u found) refl

at-right : {X : Type 0} (xs ys : List X) (n m : ℕ) → n ≡ length xs + m
    → slice_get (xs ++ ys) n ≡ slice_get ys m
at-right [] ys n m is = grind arith
at-right (x ∷ xs) ys zero m is = grind arith
at-right (x ∷ xs) ys (suc n) m is = at-right xs ys n m (omega (arith, is))

pub all-sites-at : (us : List CompilationUnit) (i m n : ℕ) (u : CompilationUnit) (p : ScopeSite)
    → slice_get us i ≡ Some u → slice_get (sites_in u u.dies) m ≡ Some p
    → n ≡ first_number us i + m → slice_get (all_sites us) n ≡ Some p
all-sites-at [] i m n u p found here is = cc
all-sites-at (v ∷ us) zero m n u p found here is = grind (arith, at-front)
all-sites-at (v ∷ us) (suc i) m n u p found here is =
    let rest = all-sites-at us i m (first_number us i + m) u p found here refl in
    grind (arith, number-cons, at-right, sites-count)

-- A site is that of the entry at an index of the unit at an index.
pub record IsSiteAt (us : List CompilationUnit) (unit index n : ℕ) (p : ScopeSite) : Type 0 where
  pub unit_is : slice_get us unit ≡ Some p.member.unit
  pub there : slice_get p.member.unit.dies index ≡ Some p.member.die
  pub kind_is : kind_of p.member.die.tag ≡ Some p.kind
  pub number_is : n ≡ first_number us unit + count_by is_scope (take index p.member.unit.dies)
  pub inside_is :
      p.inside ≡ count_by is_scope (below p.member.die (drop (index + 1) p.member.unit.dies))

pub site-at : (us : List CompilationUnit) (n : ℕ) (p : ScopeSite) → slice_get (all_sites us) n
    ≡ Some p → (unit index : ℕ) × IsSiteAt us unit index n p
site-at [] n p h = cc
site-at (u ∷ us) n p h = elim (cases_lt n (length (sites_in u u.dies))) [
  | inl lt ↦ (
      let q = element (sites_in u u.dies) n lt in
      let front = at-front (sites_in u u.dies) (all_sites us) n q.0 q.1 in
      let is = site-in u u.dies n q.0 q.1 in
      let none : first_number (u ∷ us) zero ≡ 0 = refl in
      (zero, index_of u.dies n, grind (arith, is, none)))
  | inr ge ↦ (
      let m : ℕ = n - length (sites_in u u.dies) in
      let at = site-at us m p
      (sym (at-right (sites_in u u.dies) (all_sites us) n m (omega (arith, ge))) ∙ h) in
      let place = number-cons u (take at.0 us) in
      (suc at.0, at.1, grind (arith, at.2, place, sites-count u u.dies)))
]

-- The site of an entry of a unit.
pub site-of-entry : (us : List CompilationUnit) (i k : ℕ) (u : CompilationUnit) (die : Die)
    (kind : ScopeKind) → slice_get us i ≡ Some u → slice_get u.dies k ≡ Some die
    → kind_of die.tag ≡ Some kind
    → slice_get (all_sites us) (first_number us i + count_by is_scope (take k u.dies))
    ≡ Some (site_at u die (drop (k + 1) u.dies) kind)
site-of-entry us i k u die kind found there is =
    all-sites-at us i (count_by is_scope (take k u.dies)) _ u _ found
    (site-of u u.dies k die kind there is) refl
