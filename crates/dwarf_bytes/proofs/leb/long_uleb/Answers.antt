use Rattle.std.proofs.Common.{arith}
use Rattle.std.proofs.lemmas.Result.{err_from_is_err_and}
use Rattle.dwarf_bytes.proofs.Numbers.UlebPrefixes.{uleb-whole, uleb-short, uleb-ten, uleb-tenth}
use Rattle.dwarf_bytes.proofs.Numbers.UlebPrefixes.{nine-go_on}
use Rattle.dwarf_bytes.proofs.leb.long_uleb.Goals as goal

pub returns-in_err-value-clause-value : goal.returns-in_err-value-clause-value
returns-in_err-value-clause-value c =
    let p = err_from_is_err_and c.from_residual.result c.from_residual.ensures.1 in
    let open_bytes = c.in_err-value.ensures in
    rw (p.1, p.2, open_bytes.0) (uleb-short _ (omega (arith, open_bytes.1)) open_bytes.2)

pub returns-in_err-top-in-Continued-clause-value : goal.returns-in_err-top-in-Continued-clause-value
returns-in_err-top-in-Continued-clause-value c =
    let p = err_from_is_err_and c.from_residual-in_err-top-in-Continued.result
    c.from_residual-in_err-top-in-Continued.ensures.1 in
    let nine = rw c.in-Continued.is at c.in_ok-value.ensures in
    let no_tenth = c.in_err-top-in-Continued.ensures in
    rw (p.1, p.2, no_tenth.0) (uleb-short _ (omega (arith, no_tenth.1))
    (nine-go_on _ _ nine no_tenth.1))

pub returns-then-top-gt1-clause-value : goal.returns-then-top-gt1-clause-value
returns-then-top-gt1-clause-value c =
    let nine = rw c.in-Continued.is at c.in_ok-value.ensures in
    let top = c.in_ok-top-in-Continued.ensures in
    uleb-tenth _ _ _ nine top.0 top.1 c.if-top-gt1.true

pub returns-in-Whole-clause-value : goal.returns-in-Whole-clause-value
returns-in-Whole-clause-value c = uleb-whole _ _ _ (rw c.in-Whole.is at c.in_ok-value.ensures)

pub returns-else-top-gt1-clause-value : goal.returns-else-top-gt1-clause-value
returns-else-top-gt1-clause-value c =
    let nine = rw c.in-Continued.is at c.in_ok-value.ensures in
    let top = c.in_ok-top-in-Continued.ensures in
    rw c.from.ensures (uleb-ten _ _ _ nine top.0 top.1 (omega arith))
