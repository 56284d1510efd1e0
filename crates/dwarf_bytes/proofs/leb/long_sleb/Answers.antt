use Rattle.std.specs.Prelude.{FitsSigned}
use Rattle.std.specs.Int.{w64}
use Rattle.std.proofs.Common.{arith, refl, rules}
use Rattle.std.proofs.lemmas.Int.{to_z-of_z}
use Rattle.std.proofs.lemmas.Result.{err_from_is_err_and}
use Rattle.dwarf_bytes.proofs.Numbers.SlebPrefixes.{sleb-whole, sleb-short, sleb-zero, sleb-minus}
use Rattle.dwarf_bytes.proofs.Numbers.SlebPrefixes.{sleb-tenth}
use Rattle.dwarf_bytes.proofs.Numbers.UlebPrefixes.{nine-go_on}
use Rattle.dwarf_bytes.proofs.leb.long_sleb.Goals as goal

pub returns-in_err-value-clause-value : goal.returns-in_err-value-clause-value
returns-in_err-value-clause-value c =
    let p = err_from_is_err_and c.from_residual.result c.from_residual.ensures.1 in
    let open_bytes = c.in_err-value.ensures in
    rw (p.1, p.2, open_bytes.0) (sleb-short _ (omega (arith, open_bytes.1)) open_bytes.2)

pub returns-in_err-tenth-in-Continued-clause-value :
    goal.returns-in_err-tenth-in-Continued-clause-value
returns-in_err-tenth-in-Continued-clause-value c =
    let p = err_from_is_err_and c.from_residual-in_err-tenth-in-Continued.result
    c.from_residual-in_err-tenth-in-Continued.ensures.1 in
    let nine = rw c.in-Continued.is at c.in_ok-value.ensures in
    let no_tenth = c.in_err-tenth-in-Continued.ensures in
    rw (p.1, p.2, no_tenth.0) (sleb-short _ (omega (arith, no_tenth.1))
    (nine-go_on _ _ nine no_tenth.1))

pub returns-in-Whole-clause-value : goal.returns-in-Whole-clause-value
returns-in-Whole-clause-value c =
    let fits : FitsSigned w64 c.signed.result = search rules in
    rw (to_z-of_z w64 c.signed.result fits) (sleb-whole _ _ _ _ _
    (rw c.in-Whole.is at c.in_ok-value.ensures) refl c.signed.ensures fits)

pub returns-in-0-clause-value : goal.returns-in-0-clause-value
returns-in-0-clause-value c =
    let nine = rw c.in-Continued.is at c.in_ok-value.ensures in
    let top = c.in_ok-tenth-in-Continued.ensures in
    let fits : FitsSigned w64 c.signed-in-0.result = search rules in
    rw (to_z-of_z w64 c.signed-in-0.result fits)
    (sleb-zero _ _ _ _ nine top.0 top.1 c.in-0.is c.signed-in-0.ensures fits)

pub returns-in-127-clause-value : goal.returns-in-127-clause-value
returns-in-127-clause-value c =
    let nine = rw c.in-Continued.is at c.in_ok-value.ensures in
    let top = c.in_ok-tenth-in-Continued.ensures in
    let fits : FitsSigned w64 c.signed-in-127.result = search rules in
    rw (to_z-of_z w64 c.signed-in-127.result fits)
    (sleb-minus _ _ _ _ nine top.0 top.1 c.in-127.is c.signed-in-127.ensures fits)

pub returns-in_default-clause-value : goal.returns-in_default-clause-value
returns-in_default-clause-value c =
    let nine = rw c.in-Continued.is at c.in_ok-value.ensures in
    let top = c.in_ok-tenth-in-Continued.ensures in
    sleb-tenth _ _ _ nine top.0 top.1 (omega arith) (omega arith)
