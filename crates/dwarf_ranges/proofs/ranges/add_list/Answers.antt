use Rattle.dwarf_bytes.proofs.Items.Turns.{None-from-no-Some}
use Rattle.std.proofs.{Common.{ap, arith, inr, length}, lemmas.Result.err_from_is_err_and}
use Rattle.dwarf_ranges.proofs.ListLaws.{list-end, list-fault, list-next}
use Rattle.dwarf_ranges.proofs.ranges.add_list.Goals as goal

pub returns-in_err-entry : goal.returns-in_err-entry
returns-in_err-entry c =
    let p = err_from_is_err_and c.from_residual-in_err-entry.result
    c.from_residual-in_err-entry.ensures.1 in
    rw (p.1, p.2) (inr (list-fault c.loop-entry.invariant _ c.in_err-entry.ensures.reads))

pub loop-entry-smaller : goal.loop-entry-smaller
loop-entry-smaller c =
    let read = rw c.in-Some.is at c.in_ok-entry.ensures.reads in
    let moved = (list-next c.loop-entry.invariant c.next_entry.new.cursor c.in-Some.entry read.0
    read.1).0 in
    omega (arith, moved.0, moved.1, ap length read.1)

pub loop-entry-preserved : goal.loop-entry-preserved
loop-entry-preserved c = grind (arith, list-next)

pub returns : goal.returns
returns c =
    let none = None-from-no-Some _ c.in_default.not-Some in
    let read = rw none at c.in_ok-entry.ensures.reads in
    list-end c.loop-entry.invariant _ read.0
