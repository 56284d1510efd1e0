use Rattle.dwarf_lines.specs.Lines.{Lines}
use Rattle.addr_table.specs.Private.CallFiles.{HaveFiles}
use Rattle.addr_table.proofs.Decoding.CrossCheckLaws.{ScopesSoFar}
use Rattle.addr_table.proofs.cross_checks.check_scopes.Given as goal

abbrev pub invariant-loop-number : goal.invariant-loop-number
invariant-loop-number l = (lines : Lines) → HaveFiles lines l.scopes.scopes l.files l.first l.past
    → ScopesSoFar lines l.scopes.scopes l.first l.past l.number
