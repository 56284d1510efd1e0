use Rattle.std.proofs.Common.{arith, refl, ◌≡◌}
use Rattle.std.proofs.lemmas.List.{append-nil}
use Rattle.dwarf_lines.specs.Instructions.{encoding}
use Rattle.dwarf_lines.specs.Private.Runs.{machine_of}
use Rattle.dwarf_lines.proofs.Machine.UsualSteps.{special-step, copy-step, statement-step, runs-on}
use Rattle.std.proofs.lemmas.Grind.{common_steps}
use Rattle.dwarf_lines.proofs.usual_rows.run_usual.Goals as goal

pub loop-at-preserved-then-opcode-header : goal.loop-at-preserved-then-opcode-header
loop-at-preserved-then-opcode-header c =
    let advanced = c.if-not-advance.ensures in
    let step = special-step (encoding c.args.header.now) c.args.origin c.args.bytes.now c.loop-at.at
    c.loop-at-test.true c.loop-at.usual c.advance.new.self c.row.new.self c.row.result
    c.if-opcode-header.true (record {
      address = advanced.address refl;
      line = advanced.line refl;
      small = advanced.small;
      rest = advanced.rest;
    }) c.row.ensures.row in
    rw c.in_ok-push.ensures.items (record {
      within = omega arith;
      moved = omega arith;
      usual = c.row.ensures.usual;
      runs = runs-on _ _ _ _ _ _ c.loop-at.at _ _ _ _ _ c.loop-at-test.true step
          c.loop-at.invariant.runs;
    })

pub loop-at-preserved-then-opcode-eq-DW_LNS_COPY :
    goal.loop-at-preserved-then-opcode-eq-DW_LNS_COPY
loop-at-preserved-then-opcode-eq-DW_LNS_COPY c =
    let row = c.row-then-opcode-eq-DW_LNS_COPY in
    let step = copy-step (encoding c.args.header.now) c.args.origin c.args.bytes.now c.loop-at.at
    c.loop-at-test.true c.loop-at.usual row.new.self row.result c.if-opcode-eq-DW_LNS_COPY.true
    (rw c.if-opcode-eq-DW_LNS_COPY.true at c.if-opcode-header.false) row.ensures.row in
    rw c.in_ok-push-2.ensures.items (record {
      within = omega arith;
      moved = omega arith;
      usual = row.ensures.usual;
      runs = runs-on _ _ _ _ _ _ c.loop-at.at _ _ _ _ _ c.loop-at-test.true step
          c.loop-at.invariant.runs;
    })

pub loop-at-preserved-then-opcode-eq-DW_LNS_NEGATE_STMT :
    goal.loop-at-preserved-then-opcode-eq-DW_LNS_NEGATE_STMT
loop-at-preserved-then-opcode-eq-DW_LNS_NEGATE_STMT c =
    let usual = c.if-not-has_usual_operands.ensures in
    let step = statement-step (encoding c.args.header.now) c.args.origin c.args.bytes.now
    c.loop-at.at c.loop-at-test.true (machine_of c.loop-at.usual)
    c.if-opcode-eq-DW_LNS_NEGATE_STMT.true
    (rw c.if-opcode-eq-DW_LNS_NEGATE_STMT.true at c.if-opcode-header.false)
    (usual refl).statement in record {
      within = omega arith;
      moved = omega arith;
      usual = c.loop-at.invariant.usual;
      runs = rw append-nil at (runs-on _ _ _ _ _ _ c.loop-at.at _ _ _ _ _ c.loop-at-test.true step
          c.loop-at.invariant.runs);
    }

pub loop-at-preserved : goal.loop-at-preserved
loop-at-preserved c =
    let quiet = c.in-Some-step_with_operand.ensures in
    let moves = quiet.executes.moves in record {
      within = quiet.within;
      moved = let moved = c.loop-at.invariant.moved in omega (arith, moved, moves);
      usual = quiet.usual c.loop-at.invariant.usual;
      runs = rw append-nil at (runs-on _ _ _ _ _ _ c.loop-at.at _ _ _ _ _ c.loop-at-test.true
          quiet.executes c.loop-at.invariant.runs);
    }

pub returns-clause-runs : goal.returns-clause-runs
returns-clause-runs c =
    let same : c.loop-at-test.usual ≡ c.loop-at.usual = grind (arith, common_steps) in
    let moved : c.seek.new.self ≡ record { bytes = c.args.cursor.now.bytes; place = c.loop-at.at } =
    grind (arith, common_steps) in
    rw (moved, c.registers.ensures, same) c.loop-at.invariant.runs
