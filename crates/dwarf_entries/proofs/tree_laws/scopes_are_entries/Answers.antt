use Rattle.dwarf_entries.proofs
use proofs.{◌≡◌, ℕ, ◌+◌, true, take, refl, arith, Option, Some, None, Contains, is_some}
use proofs.{count_by, slice_get_within, get_or_from_slice_get, ScopeKind, kind_of, is_scope, Scope}
use proofs.{first_number, all_sites, IsEntry, tree-parts, tree-with, scope-at, contained}
use proofs.{site-of-entry, element, scopes-count}
use Rattle.dwarf_entries.proofs.tree_laws.scopes_are_entries.Goals as goal

pub returns-clause-units : goal.returns-clause-units
returns-clause-units c s tree h = grind (arith, tree-parts)

pub returns-clause-entries : goal.returns-clause-entries
returns-clause-entries c s tree us scope h us_are inside =
    let j = contained tree.scopes scope inside in
    let at = scope-at (tree-with s us tree us_are h) j.0 scope j.1 in
    let place = at.place.2 in
    (at.place.0, at.place.1, grind (arith, place, at.kind_is, at.offset_is))

pub returns-clause-scopes : goal.returns-clause-scopes
returns-clause-scopes c s tree us unit place of die h us_are of_is die_is is =
    by_kind (kind_of die.tag) refl is
  where
    by_kind : (found : Option ScopeKind) → kind_of die.tag ≡ found → is_some found ≡ true
        → (scope : Scope) × Contains tree.scopes scope × IsEntry us unit place scope
    by_kind None at is = absurd cc
    by_kind (Some kind) at is =
        let t = tree-with s us tree us_are h in
        let n : ℕ = first_number us unit + count_by is_scope (take place of.dies) in
        let there = site-of-entry us unit place of die kind of_is die_is at in
        let within = slice_get_within (all_sites us) n _ there in
        let j = element tree.scopes n (omega (arith, within, scopes-count t)) in
        let found = scope-at t n j.0 j.1 in (
          j.0,
          (n, slice_get_within _ n j.0 j.1, get_or_from_slice_get _ n j.0 j.0 j.1),
          grind (arith, there, found.there, found.offset_is, found.kind_is),
        )
