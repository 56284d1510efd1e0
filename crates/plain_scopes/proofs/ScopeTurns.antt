-- The iterations of the loop over the scopes of an object.
use Rattle.std.proofs.Common.{◌≡◌, ℕ, ◌+◌, ◌-◌, ◌⊎◌, List, [], ◌∷◌, ◌++◌, length, map, sum_by}
use Rattle.std.proofs.Common.{arith, refl, Some, Ok, Err, slice_get, get_or, ◌<◌}
use Rattle.std.proofs.lemmas.Option.{slice_get_read}
use Rattle.std.proofs.lemmas.List.{Sums.sum_by_push, length-map, map_push}
use Rattle.dwarf_bytes.specs.Refusals.{Fails, at_item, in_section, memory_fault}
use Rattle.dwarf_bytes.specs.{declared.fault.Cause.Cause, declared.fault.LoadFault.LoadFault}
use Rattle.dwarf_walk.specs.Sections.{Sections}
use Rattle.dwarf_entries.specs.{Units.CompilationUnit, Scopes.{Scope, ParsedScope, ScopeSite}}
use Rattle.dwarf_entries.specs.Scopes.{scope_at, items_limit}
use Rattle.dwarf_entries.specs.{Passes.PassedTo, Scopes.{all_scopes, all_sites, parse_scope}}
use Rattle.dwarf_entries.proofs.UnitPasses.PassLaws.{pass-next, pass-fault, pass-none, item-fault}
use Rattle.dwarf_bytes.specs.declared.fault.Section.TheVariants.{DebugInfo}

-- The scopes of the sites before an index, and the rest of the budget of range items.
pub record ScopesSoFar (s : Sections) (us : List CompilationUnit) (index left : ℕ)
    (scopes : List Scope) : Type 0 where
  pub made : List ParsedScope
  pub passed : PassedTo (parse_scope s us) (all_sites us) index made
  pub scopes_are : scopes ≡ map (λ j. j.scope) made
  pub counted : left + sum_by (λ j. j.items) made ≡ items_limit

pub scopes-none : {s : Sections} {us : List CompilationUnit} → ScopesSoFar s us 0 items_limit []
scopes-none = record { made = []; passed = pass-none; scopes_are = refl; counted = omega arith }

module _ {s : Sections} {us : List CompilationUnit} {index left : ℕ} {scopes : List Scope}
    (so_far : ScopesSoFar s us index left scopes) where
  pub number-is : length scopes ≡ length so_far.made
  number-is =
      let same = so_far.scopes_are in
      let size = length-map so_far.made (λ (j : ParsedScope). j.scope) in
      grind arith

  pub budget-is : left ≡ items_limit - sum_by (λ j. j.items) so_far.made
  budget-is = omega (arith, so_far.counted)

  pub scopes-next : (p : ScopeSite) (j : ParsedScope) (after : ℕ)
      → slice_get (all_sites us) index ≡ Some p → scope_at s us so_far.made p ≡ Ok j
      → after + j.items ≡ left → ScopesSoFar s us (index + 1) after (scopes ++ j.scope ∷ [])
  scopes-next p j after there is counted = record {
    made = so_far.made ++ j ∷ [];
    passed = pass-next so_far.passed p j there (rw is refl);
    scopes_are = grind (arith, map_push, so_far.scopes_are);
    counted = omega (
      arith,
      so_far.counted,
      counted,
      sum_by_push (λ (x : ParsedScope). x.items) so_far.made j,
    );
  }

  pub scopes-fault : {fault : LoadFault} (p : ScopeSite) (cause : Cause)
      → slice_get (all_sites us) index ≡ Some p → Fails cause (scope_at s us so_far.made p)
      → fault ≡ at_item DebugInfo cause p.member.die.offset
      → (fault ≡ memory_fault) ⊎ (in_section DebugInfo (all_scopes s us) ≡ Err fault)
  scopes-fault p cause there bad fault_is = rw fault_is (pass-fault so_far.passed p there
      (item-fault (scope_at s us so_far.made p) cause p.member.die.offset bad))

-- The site at an index of the stored sites.
pub site-there : (stored all : List ScopeSite) (index : ℕ) (p : ScopeSite) → stored ≡ all
    → index < length stored → p ≡ get_or stored index p → slice_get all index ≡ Some p
site-there stored all index p same within is =
    rw (← same) (slice_get_read stored (length stored) index p refl within is)
