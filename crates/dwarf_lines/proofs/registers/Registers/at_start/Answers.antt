use Rattle.std.proofs.Common.{refl}
use Rattle.dwarf_lines.specs.Matrix.{address_after, line_after, file_after, row_before, is_open}
use Rattle.dwarf_lines.specs.Matrix.{starts_at_tombstone}
use Rattle.dwarf_lines.proofs.registers.Registers.at_start.Goals as goal

pub returns-clause-registers : goal.returns-clause-registers
unfolding address_after line_after file_after is_open starts_at_tombstone row_before
returns-clause-registers c = λ e. record {
  address = refl;
  line = refl;
  file = refl;
  previous = λ kept. refl;
  has_row = refl;
  at_tombstone = refl;
}
