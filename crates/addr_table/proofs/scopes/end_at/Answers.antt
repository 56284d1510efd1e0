use Rattle.std.proofs.Common.{◌∙◌}
use Rattle.addr_table.proofs.Decoding.ScopeDataLaws.{end-item}
use Rattle.addr_table.proofs.scopes.end_at.Goals as goal

pub returns : goal.returns
returns c = λ d. c.end.ensures ∙ end-item _ _ _ _ d c.scopes.ensures c.requires
