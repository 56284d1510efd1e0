use Rattle.dwarf_entries.proofs
use proofs.{◌≡◌, ℕ, suc, ◌+◌, ◌<◌, ◌≤◌, List, [], ◌∷◌, length, map, refl, arith, get_or, Some}
use proofs.{slice_get, slice_get-get_or, Die, RiseWithin, Sections, CompilationUnit, Scope}
use proofs.{roots_from, All-map, within-le, sites-rise, site-within, tree-parts, scope-at}
use proofs.{AreUnitsIn, dies-rise, units-after, from-map, count_by, flat_map, increasing, is_scope}
use proofs.{rise-at, take, ◌++◌}
use Rattle.dwarf_entries.proofs.tree_laws.offsets_rise.Goals as goal

-- ---- scopes

pub returns-clause-scopes : goal.returns-clause-scopes
returns-clause-scopes c s tree h =
    let t = (tree-parts s tree h).1 in
    let at = scope-at t in
    let key : Scope → ℕ = λ scope. scope.offset in
    let keys : List ℕ = map key tree.scopes in (
      λ k lt.
          let a = from-map key tree.scopes k _ (slice_get-get_or keys k 0 (omega (arith, lt))) in
          let b = from-map key tree.scopes (k + 1) _ (slice_get-get_or keys (k + 1) 0 lt) in
          let first = at k a.0 a.1 in
          let second = at (k + 1) b.0 b.1 in
          let less = sites-rise first.place.2 second.place.2 t.are (omega arith) in
          grind (arith, a.2, b.2, first.offset_is, second.offset_is),
      All-map (λ (offset : ℕ). offset < length s.debug_info) (λ (scope : Scope). scope.offset)
          tree.scopes (λ k d lt.
          let one = at k (get_or tree.scopes k d) (slice_get-get_or tree.scopes k d lt) in
          let inside = site-within t.are one.place.2 in
          let unit = t.are.each_is one.place.0 one.site.member.unit one.place.2.unit_is in
          omega (arith, inside.1, unit.bounds.within, one.offset_is)),
    )

-- ---- roots

raised : (low from end : ℕ) (dies : List Die) → low ≤ from → RiseWithin from end dies
    → RiseWithin low end dies
raised low from end [] le rise = omega (arith, le, rise)
raised low from end (die ∷ dies) le rise = grind (arith, rise.0, rise.1)

-- The roots of units, as entries.
abbrev heads : List CompilationUnit → List Die
heads us = flat_map (λ u. take 1 u.dies) us

heads-are : (number : ℕ) (us : List CompilationUnit) → map (λ r. r.offset) (roots_from number us)
    ≡ map (λ d. d.offset) (heads us)
heads-are number [] = refl
heads-are number (u ∷ us) = grind (arith, heads-are (number + count_by is_scope u.dies) us)

-- The first entry of a unit, before entries after the unit.
head-rises : (from end size : ℕ) (dies rest : List Die) → RiseWithin from end dies
    → RiseWithin end size rest → RiseWithin from size (take 1 dies ++ rest)
head-rises from end size [] rest rise later = raised from end size rest rise later
head-rises from end size (die ∷ dies) rest rise later = grind (arith, within-le, raised)

heads-rise : {s : Sections} (from : ℕ) (us : List CompilationUnit) → AreUnitsIn s us
    → ((i : ℕ) (u : CompilationUnit) → slice_get us i ≡ Some u → from ≤ u.header.start)
    → from ≤ length s.debug_info → RiseWithin from (length s.debug_info) (heads us)
heads-rise from [] are starts le = le
heads-rise {s} from (u ∷ us) are starts le =
    let is = are.each_is 0 u refl in
    let end : ℕ = u.header.end in
    head-rises from end (length s.debug_info) u.dies (heads us)
    (raised from u.header.start end u.dies (starts 0 u refl) (dies-rise is))
    (heads-rise end us (units-after u us are)
    (λ i v found. are.apart 0 (suc i) u v refl found (omega arith)) is.bounds.within)

pub returns-clause-roots : goal.returns-clause-roots
returns-clause-roots c s tree h =
    let t = tree-parts s tree h in
    let size : ℕ = length s.debug_info in
    let dies : List Die = heads t.0 in
    let rise = heads-rise 0 t.0 t.1.are (λ i u found. omega arith) (omega arith) in
    rw (t.1.roots_are, heads-are 0 t.0) (
      increasing 0 size dies rise,
      All-map (λ (offset : ℕ). offset < size) (λ (d : Die). d.offset) dies (λ k d lt.
          (rise-at 0 size dies k (get_or dies k d) rise (slice_get-get_or dies k d lt)).1),
    )
