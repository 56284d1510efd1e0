use Rattle.std.proofs.Common.{◌≡◌, ◌≤◌, ◌<◌, ◌-◌, [], ◌∷◌, length, arith, refl, inr}
use Rattle.std.proofs.lemmas.List.{append-nil}
use Rattle.std.proofs.lemmas.Result.{err_from_is_err_and}
use Rattle.std.proofs.lemmas.Grind.{common_steps}
use Rattle.dwarf_lines.specs.Instructions.{encoding}
use Rattle.dwarf_lines.proofs.Machine.Turns.{unread, unmade, ends, stays_open, one-step, begins}
use Rattle.dwarf_lines.proofs.Machine.Turns.{fault-is}
use Rattle.dwarf_lines.proofs.Machine.UsualSteps.{goes-on-by}
use Rattle.dwarf_lines.proofs.matrix.add_rows.Goals as goal

pub loop-cursor-init : goal.loop-cursor-init
loop-cursor-init c =
    let moved : c.seek.new.self ≡ record { bytes = c.args.bytes.now; place = c.args.start } =
    grind (arith, common_steps) in
    rw moved (record {
      same = refl;
      runs = (
        [],
        (
          length c.args.bytes.now - c.args.start,
          begins (encoding c.args.header.now) c.args.origin c.args.bytes.now c.args.start
              c.at_start-registers.result c.args.rows.now.items
              (c.at_start-registers.ensures.registers _)
              c.at_start-registers.ensures.line,
        ),
      );
    })

pub returns-in_err-instruction : goal.returns-in_err-instruction
returns-in_err-instruction c =
    let p = err_from_is_err_and c.from_residual-in_err-instruction.result
    c.from_residual-in_err-instruction.ensures.1 in
    let so_far = c.in_ok-run_usual.ensures.runs _ c.loop-cursor.invariant.runs in
    let lt : c.run_usual.new.cursor.place < length c.args.bytes.now = omega arith in
    let l = one-step _ _ _ _ so_far.0 so_far.1.0 _ _ _ lt so_far.1.1 in
    let read = rw c.in_ok-run_usual.ensures.same at c.in_err-instruction.ensures.reads in
    rw (p.1, p.2) (inr (fault-is c.args.rows.now.items _ _
    (unread _ _ _ _ so_far.0 l.0 c.run_usual.new.cursor.place _ _ _ lt read l.1)))

pub step-requires-clause-line_bound : goal.step-requires-clause-line_bound
step-requires-clause-line_bound c =
    let so_far = c.in_ok-run_usual.ensures.runs _ c.loop-cursor.invariant.runs in
    let line = so_far.1.1.line in omega (arith, line)

pub returns-in_err-row : goal.returns-in_err-row
returns-in_err-row c =
    let p = err_from_is_err_and c.from_residual-in_err-row.result
    c.from_residual-in_err-row.ensures.1 in
    let so_far = c.in_ok-run_usual.ensures.runs _ c.loop-cursor.invariant.runs in
    let lt : c.run_usual.new.cursor.place < length c.args.bytes.now = omega arith in
    let l = one-step _ _ _ _ so_far.0 so_far.1.0 _ _ _ lt so_far.1.1 in
    let read = rw c.in_ok-run_usual.ensures.same at c.in_ok-instruction.ensures.reads in
    let makes = c.in_err-row.ensures.made so_far.0 l.1.registers in
    rw (p.1, p.2) (inr (fault-is c.args.rows.now.items _ _
    (unmade _ _ _ _ so_far.0 l.0 c.run_usual.new.cursor.place _
    c.in_ok-instruction.instruction _ _ _ lt read.0 makes l.1)))

pub loop-cursor-preserved-in-Continue-branch-5 : goal.loop-cursor-preserved-in-Continue-branch-5
loop-cursor-preserved-in-Continue-branch-5 c =
    let lt : c.run_usual.new.cursor.place < length c.args.bytes.now = omega arith in
    let read = rw c.in_ok-run_usual.ensures.same at c.in_ok-instruction.ensures.reads in
    rw c.in_ok-push.ensures.items (record {
      same = read.1;
      runs = goes-on-by _ _ _ _ c.run_usual.new.cursor.place c.run_usual.new.registers
          c.run_usual.new.rows.items c.decode.new.cursor.place c.step.new.self (c.in-Some.row ∷ [])
          lt (record {
            instruction = c.in_ok-instruction.instruction;
            read = read.0;
            moves = c.in_ok-instruction.ensures.moves;
            reach = c.in_ok-instruction.ensures.reach;
            executes = record {
              line = c.in_ok-row.ensures.line;
              makes = λ before r. rw c.in-Some.is at (c.in_ok-row.ensures.made before r);
            };
          }) (c.in_ok-run_usual.ensures.runs _ c.loop-cursor.invariant.runs);
    })

pub loop-cursor-preserved-in_default : goal.loop-cursor-preserved-in_default
loop-cursor-preserved-in_default c =
    let lt : c.run_usual.new.cursor.place < length c.args.bytes.now = omega arith in
    let read = rw c.in_ok-run_usual.ensures.same at c.in_ok-instruction.ensures.reads in record {
      same = read.1;
      runs = rw append-nil at (goes-on-by _ _ _ _ c.run_usual.new.cursor.place
          c.run_usual.new.registers
          c.run_usual.new.rows.items c.decode.new.cursor.place c.step.new.self [] lt (record {
            instruction = c.in_ok-instruction.instruction;
            read = read.0;
            moves = c.in_ok-instruction.ensures.moves;
            reach = c.in_ok-instruction.ensures.reach;
            executes = record {
              line = c.in_ok-row.ensures.line;
              makes = λ before r. rw c.in_default.is at (c.in_ok-row.ensures.made before r);
            };
          }) (c.in_ok-run_usual.ensures.runs _ c.loop-cursor.invariant.runs));
    }

pub returns-then-registers : goal.returns-then-registers
returns-then-registers c =
    let le : length c.args.bytes.now ≤ c.loop-cursor.cursor.place = omega arith in
    let so_far = c.loop-cursor.invariant.runs in
    inr (fault-is c.args.rows.now.items _ _
    (stays_open _ _ _ _ so_far.0 so_far.1.0 c.loop-cursor.cursor.place _ _ le c.if-registers.true
    so_far.1.1))

pub returns : goal.returns
returns c =
    let le : length c.args.bytes.now ≤ c.loop-cursor.cursor.place = omega arith in
    let so_far = c.loop-cursor.invariant.runs in
    ends _ _ _ _ so_far.0 so_far.1.0 c.loop-cursor.cursor.place _ _ le c.if-registers.false
    so_far.1.1
