use Rattle.dwarf_entries.specs.Names.{references_limit}
use Rattle.plain_scopes.proofs.ReferenceTurns.{ChainSoFar}
use Rattle.plain_scopes.proofs.references.chain.Given as goal

abbrev pub invariant-loop-reference : goal.invariant-loop-reference
invariant-loop-reference l =
    ChainSoFar l.units references_limit l.fn.start l.left l.path.items l.member

abbrev pub decreases-loop-reference : goal.decreases-loop-reference
decreases-loop-reference l = l.left
