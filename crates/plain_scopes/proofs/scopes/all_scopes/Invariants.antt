use Rattle.dwarf_walk.specs.Sections.{sections_of}
use Rattle.plain_scopes.proofs.ScopeTurns.{ScopesSoFar}
use Rattle.plain_scopes.proofs.scopes.all_scopes.Given as goal

abbrev pub invariant-loop-site : goal.invariant-loop-site
invariant-loop-site l =
    ScopesSoFar (sections_of l.sections) l.units l.site-index l.left l.scopes.items
