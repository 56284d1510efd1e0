use Rattle.dwarf_entries.proofs
use proofs.{AddsFacts, AreParsedTo, Cause, CompilationUnit, DebugInfo, Fails, Faults, Global}
use proofs.{IsPushed, IsScopeSite, IsSiteRead, List, LoadFault, Ok, ParsedScope, Range, Root}
use proofs.{ScopeEntry, ScopeFacts, ScopeLists, ScopeNumbers, ScopeSite, Sections, Some, Vec}
use proofs.{all-sites-at, all_scopes, all_sites, ap, arith, at_item, by_number, common_steps}
use proofs.{element, exit, facts_of, first-next, first_number, item-fault, length, length-map}
use proofs.{map_push, pass-fault, pass-next, pushed, refl, roots_from, scope_at, scopes-length}
use proofs.{site-in, sites-count, sites_in, slice_get, sum_by_push, ℕ, ◌+◌, ◌<◌, ◌∙◌, ◌≡◌}
use Rattle.dwarf_entries.proofs.units.Units.unit_scopes.Goals as goal

module _ {s : Sections} {us : List CompilationUnit} {number : ℕ} {lists : ScopeLists} {left : ℕ}
    (so_far : AreParsedTo s us number lists left) where
  -- The scope of the site with the number.
  module _ (p : ScopeSite) (there : slice_get (all_sites us) number ≡ Some p) where
    scopes-next : {ranges : Vec Range Global} {new : ScopeLists} {after items next : ℕ}
        {facts : ScopeFacts} → AddsFacts (roots_from 0 us) (Ok (facts, items)) lists.ranges.items
        ranges.items (scope_at s us so_far.parsed p)
        → IsPushed facts (record lists { ranges = ranges }) new → after + items ≡ left
        → next ≡ number + 1 → AreParsedTo s us next new after
    scopes-next {ranges} {new} {after} {items} {next} {facts} (found, read, grown) is counted
        next_is =
        let parsed = so_far.parsed in
        let roots : List Root = roots_from 0 us in
        let one : ParsedScope = record { scope = facts_of roots found facts; items = items } in
        let sum = sum_by_push (λ (j : ParsedScope). j.items) parsed one in
        let rest = pushed roots lists new ranges found facts so_far.in_list grown is in
        grind (arith, common_steps, pass-next, map_push)

    scopes-fault : (cause : Cause) (at : ℕ) (fault : LoadFault)
        → Fails cause (scope_at s us so_far.parsed p) → at ≡ p.member.die.offset
        → fault ≡ at_item DebugInfo cause at → Faults fault (all_scopes s us)
    scopes-fault cause at fault bad at_is fault_is = pass-fault so_far.passed p there
        (rw (fault_is, at_is) (item-fault (scope_at s us so_far.parsed p) cause
        p.member.die.offset bad))

  -- The site with the number, which is a scope of the unit after the scopes before it.
  site-here : (index many : ℕ) (numbers : ScopeNumbers) (entry : ScopeEntry)
      → numbers.unit < length us → number ≡ first_number us numbers.unit + index → index < many
      → ((u : CompilationUnit) → slice_get us numbers.unit ≡ Some u
      → many ≡ length (sites_in u u.dies)) → numbers.number ≡ length lists.scopes.items
      → ((u : CompilationUnit) → slice_get us numbers.unit ≡ Some u
      → IsSiteRead (Ok (entry, numbers.inside)) (slice_get (sites_in u u.dies) index))
      → (p : ScopeSite) × (slice_get (all_sites us) number ≡ Some p)
      × IsScopeSite us numbers entry left so_far.parsed p
  site-here index many numbers entry inside number_is within size stored read =
      let (u, found) = element us numbers.unit inside in
      let (p, here) = element (sites_in u u.dies) index (omega (arith, within, size u found)) in
      let stored_len = scopes-length (roots_from 0 us) lists.wide.items lists.ranges.items 0
      lists.scopes.items in
      let parsed_len = length-map so_far.parsed (λ (j : ParsedScope). j.scope) in
      let site = site-in u u.dies index p here in
      let is = read u found in
      let stmt_list = by_number 0 us u numbers.unit numbers.number found in
      let count = sites-count u u.dies in
      grind (arith, all-sites-at)

pub returns-in_err-entry-clause-scopes : goal.returns-in_err-entry-clause-scopes
returns-in_err-entry-clause-scopes c parsed =
    let u = element c.args.self.now.units c.args.unit c.requires.unit in
    grind (arith, exit, c.in_err-entry.ensures.site u.0)

pub returns-in-Err-clause-scopes : goal.returns-in-Err-clause-scopes
returns-in-Err-clause-scopes c parsed =
    let so_far = c.loop-index.invariant.so_far parsed in
    let here = site-here so_far c.loop-index.index _ _ c.in_ok-entry.entry c.requires.unit refl
    c.loop-index-test.true c.scopes_in-index-end.ensures
    (c.len.ensures ∙ c.loop-index.lists.scopes.ok.0)
    (rw c.loop-index.invariant.same at c.in_ok-entry.ensures.site) in
    scopes-fault so_far here.0 here.1 c.in-Err.cause c.in_ok-entry.entry.entry.offset
    c.at_item.result ((rw (c.in_ok-entry.ensures.same ∙ c.loop-index.invariant.same)
    at c.in-Err.ensures.parsed) so_far.parsed here.0 here.2)
    (ap (λ (e : ScopeEntry). e.entry.offset) here.2.entry_is) c.at_item.ensures

pub loop-index-preserved : goal.loop-index-preserved
loop-index-preserved c = record {
  same = c.in-Ok.ensures.same ∙ (c.in_ok-entry.ensures.same ∙ c.loop-index.invariant.same);
  so_far = λ parsed.
      let so_far = c.loop-index.invariant.so_far parsed in
      let here = site-here so_far c.loop-index.index _ _ c.in_ok-entry.entry c.requires.unit refl
      c.loop-index-test.true c.scopes_in-index-end.ensures
      (c.len.ensures ∙ c.loop-index.lists.scopes.ok.0)
      (rw c.loop-index.invariant.same at c.in_ok-entry.ensures.site) in
      scopes-next so_far here.0 here.1
      {ranges = c.scope.new.ranges}
      ((rw (c.in_ok-entry.ensures.same ∙ c.loop-index.invariant.same) at c.in-Ok.ensures.parsed)
      so_far.parsed here.0 here.2) c.in_ok-push-in-Ok.ensures
      (omega (arith, c.in-Ok.ensures.budget)) (omega arith);
}

pub returns-clause-scopes : goal.returns-clause-scopes
returns-clause-scopes c parsed =
    let us = c.args.self.now.units in
    let u = element us c.args.unit c.requires.unit in
    let size = c.scopes_in-index-end.ensures u.0 u.1 in
    let first = first-next us c.args.unit u.0 u.1 in
    let sites = sites-count u.0 u.0.dies in
    let next : first_number us c.args.unit + c.loop-index.index
    ≡ first_number us (c.args.unit + 1) = omega arith in
    rw (← next) (c.loop-index.invariant.so_far parsed)
