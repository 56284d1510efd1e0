-- The data of scopes: in a scope itself, through the list of scopes, and in the lists that the
-- scopes of a result share, to which one more scope is appended.
use Rattle.dwarf_entries.proofs.Common
use Common.{AreConsecutive, AreInOrder, AreNumbered, CallSite, Calls, Global, HasDataOf, IsInList}
use Common.{IsPushed, List, Own, Range, Root, Scope, ScopeFacts, ScopeLists, Some, Vec, [], ap}
use Common.{arith, call_site, common_steps, drop, drop-append-le, drop-append_seam, facts_of}
use Common.{get_or_append_left, length, length-append, length-drop, map, option_map, own, own_of}
use Common.{ranges_start, refl, scope_of, scopes_from, scopes_of, slice_get, slice_get-map, suc}
use Common.{take, take-append-le, unwrap_or-slice_get, zero, ℕ, ◌++◌, ◌+◌, ◌-◌, ◌∷◌, ◌≡◌, ◌≤◌}
use Rattle.dwarf_entries.proofs.UnitPasses.PassLaws.{from-map}
use Rattle.dwarf_entries.specs.declared.scope.Scope.{Scope as StoredScope}

-- The number of the scope at an index.
number-at : (first total i : ℕ) (ss : List Scope) (s : Scope) → AreNumbered first total ss
    → slice_get ss i ≡ Some s → s.number ≡ first + i
number-at first total i [] s are found = cc
number-at first total zero (t ∷ ss) s are found = grind (arith, are.0)
number-at first total (suc i) (t ∷ ss) s are found =
    let e = number-at (suc first) total i ss s are.3 found in omega (arith, e)

pub data-of : (scopes : List Scope) (stored : List StoredScope) (place : ℕ) (k : StoredScope)
    → AreInOrder scopes
    → map own_of stored ≡ map own scopes → slice_get stored place ≡ Some k
    → (s : Scope) × (slice_get scopes place ≡ Some s) × HasDataOf scopes k s
data-of scopes stored place k order same found =
    let there = from-map own scopes place (own_of k)
    (rw (← same, slice_get-map own_of stored place, found) refl) in
    let number = number-at 0 (length scopes) place in
    (there.0, there.1, grind (arith, there.1, there.2, order.numbered))

pub ruleset stored_data = (data-of)

-- ---- the scope at an index

module _ (roots : List Root) (wide : List CallSite) (ranges : List Range) where
  pub scopes-at : (first : ℕ) (ss : List StoredScope) (n : ℕ)
      → slice_get (scopes_from roots wide ranges first ss) n
      ≡ option_map (λ s. scope_of roots wide
      (take (s.ranges_end - ranges_start first ss n) (drop (ranges_start first ss n) ranges)) s)
      (slice_get ss n)
  scopes-at first [] n = refl
  scopes-at first (s ∷ ss) zero = refl
  scopes-at first (s ∷ ss) (suc n) = grind (arith, scopes-at s.ranges_end ss n)

  pub scopes-length : (first : ℕ) (ss : List StoredScope)
      → length (scopes_from roots wide ranges first ss) ≡ length ss
  scopes-length first [] = refl
  scopes-length first (s ∷ ss) = ap suc (scopes-length s.ranges_end ss)

-- The data that scopes contain themselves.
pub own_stored : (roots : List Root) (wide : List CallSite) (ranges : List Range) (first : ℕ)
    (ss : List StoredScope) → map own_of ss ≡ map own (scopes_from roots wide ranges first ss)
own_stored roots wide ranges first [] = refl
own_stored roots wide ranges first (s ∷ ss) =
    ap (λ (os : List Own). own_of s ∷ os) (own_stored roots wide ranges s.ranges_end ss)

-- ---- one more scope

in_list-within : (many first past : ℕ) (ss : List StoredScope) → AreConsecutive many first past ss
    → first ≤ past
in_list-within many first past [] in_list = omega (arith, in_list)
in_list-within many first past (s ∷ ss) in_list =
    omega (arith, in_list.0, in_list-within many s.ranges_end past ss in_list.2)

-- A call site does not change when the list of wide ones grows.
call-stays : (wide more : List CallSite) (c : Calls) (file line : ℕ)
    → IsInList (length wide) c file line
    → call_site (wide ++ more) c file line ≡ call_site wide c file line
call-stays wide more c file line in_list = grind (arith, get_or_append_left, unwrap_or-slice_get)

pub scopes-push : (roots : List Root) (wide more : List CallSite) (ranges new : List Range)
    (first : ℕ) (ss : List StoredScope) (s : StoredScope) → AreConsecutive (length wide) first
    (length ranges) ss
    → s.ranges_end ≡ length ranges + length new
    → scopes_from roots (wide ++ more) (ranges ++ new) first (ss ++ s ∷ [])
    ≡ scopes_from roots wide ranges first ss ++ scope_of roots (wide ++ more) new s ∷ []
scopes-push roots wide more ranges new first [] s in_list ends =
    grind (arith, common_steps, drop-append_seam)
scopes-push roots wide more ranges new first (t ∷ ts) s in_list ends =
    let past = in_list-within (length wide) t.ranges_end (length ranges) ts in_list.2 in
    let size = length-drop first ranges in
    let rest = scopes-push roots wide more ranges new t.ranges_end ts s in_list.2 ends in
    let front = drop-append-le first ranges new in
    grind (arith, in_list.0, call-stays, take-append-le)

pub in_list-push : (many more first past new : ℕ) (ss : List StoredScope) (s : StoredScope)
    → AreConsecutive many first past ss → s.ranges_end ≡ past + new
    → IsInList (many + more) s.calls s.call_file s.call_line
    → AreConsecutive (many + more) first (past + new) (ss ++ s ∷ [])
in_list-push many more first past new [] s in_list ends inside = grind (arith, in_list, inside)
in_list-push many more first past new (t ∷ ts) s in_list ends inside =
    let rest = in_list-push many more t.ranges_end past new ts s in_list.2 ends inside in
    grind (arith, in_list)

-- The contents of the lists after one more scope.
pub pushed : (roots : List Root) (old new : ScopeLists) (ranges : Vec Range Global)
    (found : List Range) (facts : ScopeFacts) → AreConsecutive (length old.wide.items) 0
    (length old.ranges.items) old.scopes.items
    → ranges.items ≡ old.ranges.items ++ found → IsPushed facts (record old { ranges = ranges }) new
    → (scopes_of roots new ≡ scopes_of roots old ++ facts_of roots found facts ∷ [])
    × AreConsecutive (length new.wide.items) 0 (length new.ranges.items) new.scopes.items
pushed roots old new ranges found facts in_list grown is =
    let push = scopes-push roots old.wide.items is.packs.more old.ranges.items found 0
    old.scopes.items is.s in_list in
    let inside = in_list-push (length old.wide.items) (length is.packs.more) 0
    (length old.ranges.items) (length found) old.scopes.items is.s in_list in
    grind (arith, is, is.packs, is.packs.tells roots found, length-append)
