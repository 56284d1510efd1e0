use Rattle.dwarf_lines.specs.Instructions.{encoding}
use Rattle.dwarf_lines.specs.Private.Runs.{machine_of}
use Rattle.dwarf_lines.proofs.Machine.UsualSteps.{column-step, lines-step, pc-step}
use Rattle.dwarf_lines.proofs.Machine.UsualSteps.{files-step, where-some}
use Rattle.dwarf_lines.proofs.usual_registers.UsualRegisters.step_with_operand.Goals as goal

pub returns-in_ok-unsigned_at-in-5-clause-executes :
    goal.returns-in_ok-unsigned_at-in-5-clause-executes
returns-in_ok-unsigned_at-in-5-clause-executes c =
    let read = c.in_ok-unsigned_at-in-5.ensures in
    column-step (encoding c.args.header.now) c.args.origin c.args.bytes.now c.args.at
    c.requires.at _ _ (machine_of c.args.self.now) c.in-5.is (rw c.in-5.is at c.requires.standard)
    c.requires.operands.column read.value read.moves

pub returns-in-3-clause-executes : goal.returns-in-3-clause-executes
returns-in-3-clause-executes c =
    let e = encoding c.args.header.now in
    where-some c.advance_line.result _ _ _ c.advance_line.ensures.line c.advance_line.ensures.moves
    (λ next is moves. lines-step e c.args.origin c.args.bytes.now c.args.at c.requires.at next
    c.args.self.now c.advance_line.new.self c.in-3.is (rw c.in-3.is at c.requires.standard)
    is c.advance_line.ensures.rest moves)

pub returns-in-2-clause-executes : goal.returns-in-2-clause-executes
returns-in-2-clause-executes c =
    let e = encoding c.args.header.now in
    where-some c.advance_pc.result _ _ _ c.advance_pc.ensures.address c.advance_pc.ensures.moves
    (λ next is moves. pc-step e c.args.origin c.args.bytes.now c.args.at c.requires.at next
    c.args.self.now c.advance_pc.new.self c.in-2.is (rw c.in-2.is at c.requires.standard)
    is c.advance_pc.ensures.rest moves)

pub returns-in-4-clause-executes : goal.returns-in-4-clause-executes
returns-in-4-clause-executes c =
    let e = encoding c.args.header.now in
    where-some c.set_file.result _ _ _ c.set_file.ensures.file c.set_file.ensures.moves
    (λ next is moves. files-step e c.args.origin c.args.bytes.now c.args.at c.requires.at next
    c.args.self.now c.set_file.new.self c.in-4.is (rw c.in-4.is at c.requires.standard)
    is c.set_file.ensures.rest moves)
