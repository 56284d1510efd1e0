use Rattle.addr_table.proofs.Decoding.ScopeDataLaws.{returned-item}
use Rattle.addr_table.proofs.scopes.scope_at.Goals as goal

pub returns : goal.returns
returns c = λ d. returned-item _ _ _ _ c.requires.order c.scopes.ensures c.requires.within d
