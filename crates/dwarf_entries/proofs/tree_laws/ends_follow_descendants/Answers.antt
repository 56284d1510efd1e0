use Rattle.dwarf_entries.proofs
use proofs.{◌≡◌, ℕ, ◌+◌, List, take, drop, arith, Contains, count_by, is_scope, Sections}
use proofs.{CompilationUnit, Scope, ScopeSite, first_number, IsEntry, sites-rise, sites-below}
use proofs.{tree-with, scope-at, contained, IsSiteAt, site_at, site-of-entry, IsReadFrom, Tree}
use Rattle.dwarf_entries.proofs.tree_laws.ends_follow_descendants.Goals as goal

module _ {us : List CompilationUnit} {i k : ℕ} {scope : Scope} (at : IsEntry us i k scope) where
  -- The site of an entry.
  abbrev entry_site : ScopeSite
  entry_site = site_at at.of at.die (drop (k + 1) at.of.dies) scope.kind

  abbrev entry_number : ℕ
  entry_number = first_number us i + count_by is_scope (take k at.of.dies)

  site-of : IsSiteAt us i k entry_number entry_site
  site-of = grind (arith, at.of_is, at.die_is, at.kind_is)

  -- The number and the end of the scope of the entry.
  numbers-are : {s : Sections} {tree : Tree} → IsReadFrom s us tree → Contains tree.scopes scope
      → (scope.number ≡ entry_number) × (scope.«end» ≡ entry_number + 1 + entry_site.inside)
  numbers-are {tree = tree} t inside =
      let j = contained tree.scopes scope inside in
      let x = scope-at t j.0 scope j.1 in
      let before = sites-rise x.place.2 site-of t.are in
      let after = sites-rise site-of x.place.2 t.are in
      let there = site-of-entry us i k at.of at.die scope.kind at.of_is at.die_is at.kind_is in
      grind (arith, x.number_is, x.end_is, x.there)

pub returns : goal.returns
returns c s tree us outer inner i j p q h us_are outer_in inner_in outer_at inner_at =
    let t = tree-with s us tree us_are h in
    let a = numbers-are outer_at t outer_in in
    let b = numbers-are inner_at t inner_in in
    let below = sites-below (site-of outer_at) (site-of inner_at) in
    grind (arith, below, a, b)
