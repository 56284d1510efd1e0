use Rattle.std.proofs.Common.{◌≡◌, refl, ap, ◌∙◌, arith}
use Rattle.std.specs.Prelude.{◌+ℤ◌}
use Rattle.std.proofs.lemmas.Int.{ints, to_z-of_z}
use mir.Syntax.{w64}
use Rattle.dwarf_lines.specs.declared.instruction.Instruction.TheVariants.{Special}
use Rattle.dwarf_lines.specs.declared.registers.Registers.{Registers}
use Rattle.dwarf_lines.specs.Instructions.{encoding}
use Rattle.dwarf_lines.specs.Matrix.{line_change}
use Rattle.dwarf_lines.specs.Private.Registers.{Reaches}
use Rattle.dwarf_lines.proofs.Machine.StepKinds.{moves-by, where-ok, row_step, special-sums}
use Rattle.dwarf_lines.proofs.registers.Registers.special.Goals as goal

pub returns-clause-made : goal.returns-clause-made
returns-clause-made c = λ before r.
    let e = encoding c.args.header.now in
    let change = c.special_line-change in
    let widened : c.from-2.result ≡ change.result =
    c.from-2.ensures ∙ to_z-of_z w64 change.result (record { sfits = change.type_inv }) in
    let s = special-sums e c.args.adjusted before c.args.self.now c.advance.new.self
    c.move_line.new.self r (rw c.from.ensures at c.advance.ensures.address)
    c.advance.ensures.rest (moves-by c.advance.new.self c.move_line.new.self
    (line_change (encoding c.args.header.now) (Special c.args.adjusted)) c.from-2.result
    (record { sfits = c.from-2.type_inv }) (widened ∙ change.ensures.value)
    c.move_line.ensures) in
    row_step e c.args.origin (Special c.args.adjusted) before c.move_line.new.self refl refl s.0 s.1
    s.2 (λ kept. s.3 ∙ r.previous kept) s.4 c.make_row.result c.make_row.new.self
    c.make_row.ensures.row

pub returns-clause-line : goal.returns-clause-line
returns-clause-line c =
    let change = c.special_line-change in
    let widened : c.from-2.result ≡ change.result =
    c.from-2.ensures ∙ to_z-of_z w64 change.result (record { sfits = change.type_inv }) in
    let line : c.make_row.new.self.line ≡ c.args.self.now.line +ℤ change.result =
    c.make_row.ensures.line ∙ ap (λ (r : Registers). r.line)
    (moves-by c.advance.new.self c.move_line.new.self change.result
    c.from-2.result (record { sfits = c.from-2.type_inv }) widened c.move_line.ensures)
    ∙ ap (λ (r : Registers). r.line +ℤ change.result) c.advance.ensures.rest in
    let small = change.ensures.small in
    where-ok c.make_row.result (Reaches c.args.self.now.line c.make_row.new.self.line
    (Special c.args.adjusted)) (rw line (omega (arith, ints)))
