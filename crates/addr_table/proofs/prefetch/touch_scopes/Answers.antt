use Rattle.addr_table.proofs.Chains.ChainEnds.{parent-within, code-below}
use Rattle.addr_table.proofs.prefetch.touch_scopes.Goals as goal

pub loop-scope-preserved : goal.loop-scope-preserved
loop-scope-preserved c = rw c.parent-scope.ensures (parent-within _ _ _ c.requires.have
    (code-below _ _ _ c.in-Some.is c.loop-scope.invariant))
