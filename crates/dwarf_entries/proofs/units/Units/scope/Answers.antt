use Rattle.dwarf_entries.proofs
use proofs.{AddsFacts, AddsRanges, AreUnitsOf, Bases, Cause, Err, Inside, IsMember, PackedNames}
use proofs.{IsScopeSite, List, Member, ObjectUnits, Ok, ParsedScope, Range, Result, ScopeEntry}
use proofs.{ScopeNumbers, ScopeSite, [], ap, arith, bases_of, budget-left, covers_by, covers_of}
use proofs.{exit, get_or, get_or_from_slice_get, names_of, refl, roots_from, scope_at, scope_facts}
use proofs.{scope_of_site, sections_of, seen, slice_get-map, step-fault, unpacked_names, ℕ, ◌>>=◌}
use proofs.{◌∙◌, ◌≡◌}
use Rattle.dwarf_entries.proofs.units.Units.scope.Goals as goal

module _ {w : ObjectUnits} {u : Inside} (are : AreUnitsOf w u) {before : List ParsedScope}
    {p : ScopeSite} {numbers : ScopeNumbers} {budget : ℕ} {entry : ScopeEntry}
    (site : IsScopeSite w.units numbers entry budget before p) (names : PackedNames)
    (names_are : (m : Member) → IsMember w.units numbers.unit entry.entry m
    → names_of w.sections w.units m ≡ Ok (unpacked_names names)) (bases d : Bases)
    (bases_are : bases ≡ get_or u.bases.items numbers.unit d) where
  after-names : scope_at w.sections w.units before p
      ≡ (covers_by budget w.sections bases entry.low_pc entry.high_pc entry.ranges
      >>= λ covering. Ok (scope_of_site before p (unpacked_names names) covering))
  unfolding covers_of
  after-names =
      let named = names_are p.member (grind arith) in
      let there = get_or_from_slice_get u.bases.items numbers.unit p.member.unit.bases d
      (rw (are.bases_are, slice_get-map bases_of w.units numbers.unit, site.unit_is) refl) in
      rw (named, bases_are, there, site.entry_is, site.budget_is) refl

  -- The scope of a site, from the outcome of its ranges.
  scope-adds : (r : Result ℕ Cause) (old new : List Range) → AddsRanges r old new
      (covers_by budget w.sections bases entry.low_pc entry.high_pc entry.ranges)
      → AddsFacts (roots_from 0 w.units)
      (r >>= λ items. Ok (scope_facts numbers entry names, items)) old new
      (scope_at w.sections w.units before p)
  scope-adds (Err cause) old new bad = grind (arith, after-names, step-fault)
  scope-adds (Ok items) old new (found, read, grown) = grind (arith, after-names)

pub returns-in_err-items-clause-parsed : goal.returns-in_err-items-clause-parsed
returns-in_err-items-clause-parsed c before p place =
    let same = c.self.view_is ∙ c.in_ok-names.ensures.same in
    rw (exit _ c.from_residual-in_err-items.ensures.1)
    (scope-adds (seen c.self.invariant same) place c.in_ok-names.names c.in_ok-names.ensures.names
    _ _ c.index-bases.ensures (Err c.in_err-items.field-0.0) [] []
    (rw (ap (λ (v : ObjectUnits). v.sections) same) at c.in_err-items.ensures))

pub returns-clause-parsed : goal.returns-clause-parsed
returns-clause-parsed c before p place =
    let same = c.self.view_is ∙ c.in_ok-names.ensures.same in
    rw c.facts.ensures
    (scope-adds (seen c.self.invariant same) place c.in_ok-names.names c.in_ok-names.ensures.names
    _ _ c.index-bases.ensures (Ok c.in_ok-items.items) _ _
    (rw (ap (λ (v : ObjectUnits). v.sections) same) at c.in_ok-items.ensures))

pub returns-clause-budget : goal.returns-clause-budget
returns-clause-budget c = budget-left c.args.budget c.in_ok-items.items
    (sections_of c.self.inside.sections.now) _ c.args.entry.now.low_pc c.args.entry.now.high_pc
    c.args.entry.now.ranges _ _ c.in_ok-items.ensures
