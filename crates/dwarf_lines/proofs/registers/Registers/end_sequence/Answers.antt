use Rattle.std.proofs.Common.{arith}
use Rattle.std.proofs.lemmas.Result.{err_from_is_err_and}
use Rattle.dwarf_lines.proofs.Machine.StepRows.{starts-again}
use Rattle.dwarf_lines.proofs.Machine.StepKinds.{end-step}
use Rattle.dwarf_lines.proofs.registers.Registers.end_sequence.Goals as goal

pub returns-in_err-row-clause-made : goal.returns-in_err-row-clause-made
returns-in_err-row-clause-made c = λ e before r.
    let p = err_from_is_err_and c.from_residual.result c.from_residual.ensures.1 in
    rw (p.1, p.2) (end-step e c.args.origin before c.args.self.now r _ c.in_err-row.ensures)

pub returns-clause-made : goal.returns-clause-made
returns-clause-made c = λ e before r. (
  end-step e c.args.origin before c.args.self.now r _ c.in_ok-row.ensures,
  starts-again e before c.at_start.result (c.at_start.ensures.registers e),
)

pub returns-clause-line : goal.returns-clause-line
returns-clause-line c = rw c.at_start.ensures.line (omega arith)
