-- The units and scopes that a result was read from.
use Rattle.dwarf_entries.proofs.Common
use Common.{Cause, CompilationUnit, Contains, EntryNames, Fits, List, Ok, ParsedScope, Result}
use Common.{Scope, ScopeSite, Sections, Some, Tree, [], all_scopes, all_sites, arith, bind_ok}
use Common.{covers-fits, covers_there, each-length, in_section-ok, items_limit, length, length-map}
use Common.{length-take, map, names_of, parse_scope, roots_from, same-ok, scope_at, slice_get}
use Common.{slice_get-get_or, slice_get_within, stmt_list_of, sum_by, take, tree_of, units_read}
use Common.{with_offset, ℕ, ◌+◌, ◌-◌, ◌≡◌}
use Rattle.dwarf_entries.proofs.ScopePasses.SiteLaws.{IsSiteAt, site-at}
use Rattle.dwarf_entries.proofs.UnitPasses.{PassLaws.{each-at, from-map}, UnitLaws.AreUnitsIn}
use Rattle.dwarf_entries.proofs.UnitPasses.UnitLaws.{units-in}

-- ---- the passes of a read

-- The units and scopes that a result was read from.
pub record IsReadFrom (s : Sections) (us : List CompilationUnit) (tree : Tree) : Type 0 where
  pub us_are : units_read s ≡ Ok us
  pub are : AreUnitsIn s us
  pub parsed : List ParsedScope
  pub parsed_are : all_scopes s us ≡ Ok parsed
  pub roots_are : tree.roots ≡ roots_from 0 us
  pub scopes_are : tree.scopes ≡ map (λ j. j.scope) parsed

pub tree-parts : (s : Sections) (tree : Tree) → tree_of s ≡ Ok tree
    → (us : List CompilationUnit) × IsReadFrom s us tree
unfolding tree_of
tree-parts s tree h = grind (arith, bind_ok, same-ok, units-in, in_section-ok)

-- The same for the units that were read.
pub tree-with : (s : Sections) (us : List CompilationUnit) (tree : Tree) → units_read s ≡ Ok us
    → tree_of s ≡ Ok tree → IsReadFrom s us tree
tree-with s us tree us_are h = let t = tree-parts s tree h in grind (arith, t)

-- ---- the scope with a number

without-offset : {X : Type 0} (at : ℕ) (r : Result X Cause) (x : X) → with_offset at r ≡ Ok x
    → r ≡ Ok x
without-offset at r x h = grind arith

-- What the scope with a number was parsed from, and the data that it has from it.
pub record IsScopeAt (s : Sections) (us : List CompilationUnit) (parsed : List ParsedScope) (n : ℕ)
    (scope : Scope) : Type 0 where
  pub site : ScopeSite
  pub there : slice_get (all_sites us) n ≡ Some site
  pub place : (unit index : ℕ) × IsSiteAt us unit index n site
  pub names : EntryNames
  pub names_are : names_of s us site.member ≡ Ok names
  pub name_is : scope.name ≡ names.name
  pub linkage_name_is : scope.linkage_name ≡ names.linkage_name
  pub kind_is : scope.kind ≡ site.kind
  pub offset_is : scope.offset ≡ site.member.die.offset
  pub number_is : scope.number ≡ n
  pub end_is : scope.«end» ≡ n + 1 + site.inside
  pub stmt_list_is : scope.stmt_list ≡ stmt_list_of site.member.unit.dies
  pub items : ℕ
  pub parsed_is : slice_get parsed n ≡ Some (record { scope = scope; items = items })
  pub fits : Fits (items_limit - sum_by (λ j. j.items) (take n parsed))
      (record { ranges = scope.ranges; items = items })

module _ {s : Sections} {us : List CompilationUnit} {tree : Tree} (t : IsReadFrom s us tree) where
  pub scope-at : (n : ℕ) (scope : Scope) → slice_get tree.scopes n ≡ Some scope
      → IsScopeAt s us t.parsed n scope
  scope-at n scope there =
      let j = from-map (λ (j : ParsedScope). j.scope) t.parsed n scope
      (rw t.scopes_are at there) in
      let before : List ParsedScope = take n t.parsed in
      let of = each-at (parse_scope s us) [] (all_sites us) t.parsed t.parsed_are n j.0 j.1 in
      let p = of.0 in
      let names = bind_ok (names_of s us p.member) _ j.0
      (without-offset p.member.die.offset (scope_at s us before p) j.0 of.2) in
      let covering = bind_ok (covers_there s before p) _ j.0 names.2 in
      let place = site-at us n p of.1 in
      let budget : ℕ = items_limit - sum_by (λ j. j.items) before in
      let fits = covers-fits budget s p.member.unit.bases p.member.die covering.0 covering.1 in
      grind (arith, length-take, slice_get_within)

  pub scopes-count : length tree.scopes ≡ length (all_sites us)
  scopes-count = grind (arith, length-map, each-length)

-- A scope of the list has an index.
pub contained : (scopes : List Scope) (scope : Scope) → Contains scopes scope
    → (n : ℕ) × (slice_get scopes n ≡ Some scope)
contained scopes scope (k, lt, is) = grind (arith, slice_get-get_or)
