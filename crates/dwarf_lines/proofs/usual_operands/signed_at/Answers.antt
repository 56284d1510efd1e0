use Rattle.std.proofs.lemmas.Int.{to_z-of_z}
use mir.Syntax.{w64}
use Rattle.dwarf_lines.proofs.Instructions.ShortOperands.{one-signed, two-signed}
use Rattle.dwarf_lines.proofs.usual_operands.signed_at.Goals as goal

pub returns-then-low-lt128-clause-value : goal.returns-then-low-lt128-clause-value
returns-then-low-lt128-clause-value c =
    let low = c.in_ok-low.ensures.lookup in
    rw (
      to_z-of_z w64 c.one_signed.result (record { sfits = c.one_signed.type_inv }),
      c.one_signed.ensures,
    ) (one-signed c.args.bytes.now c.args.place c.in_ok-low.field-0.now
    (record { within = low.3.0; is = low.1 }) c.if-low-lt128.true)

pub returns-clause-value : goal.returns-clause-value
returns-clause-value c =
    let low = c.in_ok-low.ensures.lookup in
    let high = c.in_ok-high.ensures.lookup in
    rw (
      to_z-of_z w64 c.two_signed.result (record { sfits = c.two_signed.type_inv }),
      c.two_signed.ensures,
    ) (two-signed c.args.bytes.now c.args.place
    c.in_ok-low.field-0.now c.in_ok-high.field-0.now (record { within = low.3.0; is = low.1 })
    (record { within = high.3.0; is = high.1 }) c.if-low-lt128.false
    (rw (low.3.1 0) (c.type_inv.bytes c.args.place).fits) c.if-high-ge128.false)
