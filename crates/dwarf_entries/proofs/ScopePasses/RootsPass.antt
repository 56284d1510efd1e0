-- The roots of units: the loop that returns them, their order, and the root of a scope.
use Rattle.dwarf_entries.proofs.Common
use Common.{◌≡◌, ℕ, zero, suc, ◌+◌, ◌<◌, ◌≤◌, List, [], ◌∷◌, ◌++◌, length, take, get_or}
use Common.{arith, Option, Some, None, count_by, slice_get, nat_lt, slice_get_within}
use Common.{get_or_from_slice_get, UnitEntries, is_scope, Root, CompilationUnit, roots_from}
use Common.{stmt_list_of, number_of_scopes, first_number, find, take_more, sum_by-take-le, find_at}
use Common.{IsNonDecreasingBy, IsPartitionPoint, ArePartsFrom, stmt_list_by_number}
use Common.{position_or_len_is, lt-ltb, le-ltb, RootEntry, root_in, ◌-◌}
use Rattle.dwarf_entries.proofs.ScopePasses.SiteLaws.{first-next, number-cons, sites-count}
use Rattle.dwarf_entries.proofs.UnitPasses.{RereadLaws.sites-stored, UnitLaws.StoredFor}

-- The root of a unit, if there is one.
abbrev pub root_list : ℕ → ℕ → Option RootEntry → List Root
root_list first past None = []
root_list first past (Some root) = record
    { offset = root.offset; stmt_list = root.stmt_list; first = first; past = past } ∷ []

-- The roots after one more unit.
roots-push : (number : ℕ) (us : List CompilationUnit) (u : CompilationUnit) (first past : ℕ)
    → first ≡ number + number_of_scopes us → past ≡ first + count_by is_scope u.dies
    → roots_from number (us ++ u ∷ [])
    ≡ roots_from number us ++ root_list first past (root_in u.dies)
roots-push number [] u first past first_is past_is = grind arith
roots-push number (v ∷ us) u first past first_is past_is =
    let rest = roots-push (number + count_by is_scope v.dies) us u first past in
    grind (arith, number-cons v us, rest)

module _ {us : List CompilationUnit} {index : ℕ} {unit : UnitEntries}
    (here : StoredFor us index unit) (first past : ℕ) (first_is : first ≡ first_number us index)
    (past_is : past ≡ first + unit.scopes.len) where
  ends : past ≡ first + count_by is_scope here.unit.dies
  ends =
      let size = sites-stored unit here.unit here.stored in
      omega (arith, past_is, size, sites-count here.unit here.unit.dies, unit.scopes.ok.0)

  -- The number of the first scope of the next unit, which is at most the number of all scopes.
  pub past-is : (past ≡ first_number us (index + 1)) × (past ≤ number_of_scopes us)
  past-is =
      let next = first-next us index here.unit here.is in
      grind (arith, ends, first_is, sum_by-take-le)

  pub roots-next : (found : Option RootEntry) (roots : List Root) → unit.root ≡ found
      → roots ≡ roots_from 0 (take index us)
      → roots ++ root_list first past found ≡ roots_from 0 (take (index + 1) us)
  roots-next found roots found_is so_far =
      let item = get_or_from_slice_get us index here.unit here.unit here.is in
      let push = roots-push 0 (take index us) here.unit first past in
      grind (arith, ends, first_is, here.stored, take_more, slice_get_within)

-- The scopes of the roots end in order, after a lower bound.
parts-rise : (number end : ℕ) (roots : List Root) → ArePartsFrom number end roots → (i j : ℕ)
    (d : Root) → i ≤ j → j < length roots
    → (number ≤ (get_or roots j d).past) × ((get_or roots i d).past ≤ (get_or roots j d).past)
parts-rise number end [] parts i j d le lt = absurd (omega (arith, lt))
parts-rise number end (root ∷ roots) parts i j d le lt =
    grind (arith, parts-rise root.past end roots parts.2 (i - 1) (j - 1) d)

-- The roots partition the numbers of the scopes.
pub roots-part : (number : ℕ) (units : List CompilationUnit)
    → ArePartsFrom number (number + number_of_scopes units) (roots_from number units)
roots-part number [] = omega arith
roots-part number (unit ∷ units) =
    let past : ℕ = number + count_by is_scope unit.dies in
    grind (arith, roots-part past units, number-cons)

pub ends-rise : (us : List CompilationUnit) (roots : List Root) → roots ≡ roots_from 0 us
    → IsNonDecreasingBy (λ r. r.past) roots
ends-rise us roots are = rw are (λ i j d le lt.
    (parts-rise 0 (0 + number_of_scopes us) (roots_from 0 us) (roots-part 0 us) i j d le lt).1)

-- ---- the roots

-- The first root whose scopes end after a number.
pub by_partition : (roots : List Root) (number index : ℕ) → index ≤ length roots
    → IsPartitionPoint (λ r. r.past ≤ number) (λ r. number < r.past) roots index
    → find (λ r. nat_lt number r.past) roots ≡ slice_get roots index
by_partition roots number index within parts =
    let d : Root = record { offset = 0; stmt_list = None; first = 0; past = 0 } in
    let is = position_or_len_is (λ r. nat_lt number r.past) roots index d within in
    grind (arith, find_at, le-ltb, lt-ltb, parts.0, parts.1)

-- ---- the scopes of the units before

-- The stmt_list that is found by the number of a scope of a unit is that of the unit.
pub by_number : (first : ℕ) (us : List CompilationUnit) (u : CompilationUnit) (index number : ℕ)
    → slice_get us index ≡ Some u → first + first_number us index ≤ number
    → number < first + first_number us index + count_by is_scope u.dies
    → stmt_list_by_number (roots_from first us) number ≡ stmt_list_of u.dies
by_number first [] u index number found after inside = cc
by_number first (v ∷ vs) u zero number found after inside = grind (arith, lt-ltb)
by_number first (v ∷ vs) u (suc index) number found after inside =
    let past : ℕ = first + count_by is_scope v.dies in
    let later = by_number past vs u index number found in
    grind (arith, le-ltb number past, number-cons v (take index vs), later)
