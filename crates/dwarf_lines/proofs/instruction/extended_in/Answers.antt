use Rattle.std.proofs.Common.{length, ◌≡◌, ◌∙◌, ℕ, sym, ap, refl, drop}
use Rattle.dwarf_bytes.specs.Numbers.{little_endian}
use Rattle.dwarf_bytes.specs.declared.fault.ReadFault.{ReadFault}
use Rattle.dwarf_lines.proofs.Headers.BoundsLaws.{ok-is}
use Rattle.dwarf_lines.proofs.Instructions.OperandEncodings.{eqb-eq}
use Rattle.dwarf_lines.proofs.Instructions.Operands.{whole-address}
use Rattle.dwarf_lines.specs.Instructions.{extended_of}
use Rattle.dwarf_lines.proofs.instruction.extended_in.Goals as goal

pub returns-in_err-address-in-2-clause-value : goal.returns-in_err-address-in-2-clause-value
returns-in_err-address-in-2-clause-value c =
    let nine : length c.args.body.now ≡ 9 =
    eqb-eq _ 9 (sym c.has_address.ensures ∙ c.if-has_address.true) in
    let read = whole-address c.args.body.now c.new.result nine c.new.ensures in
    let fault = c.in_err-address-in-2.ensures.reads.0 in
    cc

pub returns-in_ok-address-in-2-clause-value : goal.returns-in_ok-address-in-2-clause-value
unfolding extended_of
returns-in_ok-address-in-2-clause-value c =
    let nine : length c.args.body.now ≡ 9 =
    eqb-eq _ 9 (sym c.has_address.ensures ∙ c.if-has_address.true) in
    let read = whole-address c.args.body.now c.new.result nine c.new.ensures in
    let pair : (c.in_ok-address-in-2.address, c.u64.new.self.place)
    ≡ (little_endian (drop 1 c.args.body.now), 8) =
    ok-is {E = ReadFault} _ _ (sym c.in_ok-address-in-2.ensures.reads.0 ∙ read) in
    let address : c.in_ok-address-in-2.address ≡ little_endian (drop 1 c.args.body.now) =
    ap (λ (p : ℕ × ℕ). p.0) pair in
    rw (c.in-2.is, nine, address) refl
