use Rattle.dwarf_entries.proofs
use proofs.{◌+◌, ap, ◌∙◌, append-nil, arith, Some, None, take_all, roots_from, past-is, roots-next}
use proofs.{ends-rise, seen-units, stored-item, stored-length}
use Rattle.dwarf_entries.proofs.units.Units.roots.Goals.{in-Some+in_ok-push, in_default}
use Rattle.dwarf_entries.proofs.units.Units.roots.Goals as goal

pub loop-unit-preserved : goal.loop-unit-preserved
loop-unit-preserved c =
    let first = c.loop-unit.first in
    let roots = c.loop-unit.roots.items in
    let are = seen-units c.self.invariant c.self.view_is c.deref-unit-items.ensures.value in
    let here = stored-item _ c.args.self.now.units are c.loop-unit.unit-index c.unit-item.result
    c.loop-unit-test.true c.unit-item.is in
    let size = ap (λ n. first + n) c.len.ensures in
    let past = past-is here first (first + c.len.result) c.loop-unit.invariant.first_is size in
    let next = roots-next here first (first + c.len.result) c.loop-unit.invariant.first_is size in
    elim c.match-unit.branch [
      | in-Some+in_ok-push w ↦
          let more = next (Some w.in-Some.root) roots w.in-Some.is c.loop-unit.invariant.so_far in
          grind (arith, past, w.first-is, w.roots-is, w.in_ok-push.ensures.items)
      | in_default w ↦
          let same = next None roots w.in_default.is c.loop-unit.invariant.so_far in
          grind (arith, past, w.first-is, w.roots-is, append-nil)
    ]

pub returns : goal.returns
returns c =
    let us = c.args.self.now.units in
    let are = seen-units c.self.invariant c.self.view_is c.deref-unit-items.ensures.value in
    let size = stored-length _ us are in
    let roots = c.loop-unit.invariant.so_far ∙ ap (roots_from 0)
    (take_all c.loop-unit.unit-index us (omega (arith, size, c.loop-unit-test.false))) in
    record { roots = roots; order = ends-rise us _ roots }
