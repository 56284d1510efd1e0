use Rattle.dwarf_entries.proofs
use proofs.{◌≡◌, ℕ, zero, suc, ◌+◌, ◌≤◌, List, length, take, arith, ◌<◌, take_all}
use proofs.{get_or_from_slice_get, Sections, CompilationUnit, Scope, ParsedScope, sum_by_more}
use proofs.{sum_by, fold-map, items_limit, tree-parts, element, IsReadFrom, Tree, get_or, scope-at}
use proofs.{slice_get-get_or, Some, refl, slice_get, slice_get-map}
use Rattle.dwarf_entries.proofs.tree_laws.ranges_are_nonempty.Goals as goal

module _ {s : Sections} {us : List CompilationUnit} {tree : Tree} (t : IsReadFrom s us tree) where
  -- The scopes before a number have at most as many ranges as range items, which are within the
  -- limit.
  limited : (n : ℕ) → n ≤ length t.parsed → let before : List ParsedScope = take n t.parsed in
      (sum_by (λ j. length j.scope.ranges) before ≤ sum_by (λ j. j.items) before)
      × (sum_by (λ j. j.items) before ≤ items_limit)
  limited zero le = (omega arith, omega arith)
  limited (suc n) le =
      let within : n < length t.parsed = omega (arith, le) in
      let j = element t.parsed n within in
      let scopes : slice_get tree.scopes n ≡ Some j.0.scope =
      rw (t.scopes_are, slice_get-map (λ (j : ParsedScope). j.scope) t.parsed n, j.1) refl in
      let at = scope-at t n j.0.scope scopes in
      let rest = limited n (omega (arith, le)) in
      let one : suc n ≡ n + 1 = omega arith in
      let same = get_or_from_slice_get t.parsed n j.0 j.0 j.1 in
      let ranges = sum_by_more (λ (j : ParsedScope). length j.scope.ranges) t.parsed n j.0 within in
      let items = sum_by_more (λ (j : ParsedScope). j.items) t.parsed n j.0 within in
      rw one (grind (arith, at.fits))

pub returns-clause-ranges : goal.returns-clause-ranges
returns-clause-ranges c s tree h k d lt =
    let t = tree-parts s tree h in
    (scope-at t.1 k (get_or tree.scopes k d) (slice_get-get_or tree.scopes k d lt)).fits.hold

pub returns-clause-count : goal.returns-clause-count
returns-clause-count c s tree h =
    let t = (tree-parts s tree h).1 in
    let all = limited t (length t.parsed) (omega arith) in
    let whole = take_all (length t.parsed) t.parsed (omega arith) in
    let mapped = fold-map (λ (n : ℕ) (scope : Scope). n + length scope.ranges)
    (λ (j : ParsedScope). j.scope) 0 t.parsed in
    let parts = rw whole at all in
    rw t.scopes_are (omega (arith, parts.0, parts.1, mapped))
