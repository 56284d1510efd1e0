use Rattle.std.proofs.Common.{◌<◌, subst, sym, arith}
use Rattle.std.specs.Prelude.{Option, IfSome}
use Rattle.addr_table.specs.declared.open_ends.End.{End}
use Rattle.addr_table.proofs.Endpoints.FirstEnds.{first-taken, heap-taken}
use Rattle.addr_table.proofs.open_ends.OpenEnds.take_up_to.Goals.{in_default-via-in_default}
use Rattle.addr_table.proofs.open_ends.OpenEnds.take_up_to.Goals.{in_default-via-in-Some+else-row-end}
use Rattle.addr_table.proofs.open_ends.OpenEnds.take_up_to.Goals as goal

pub returns-in-Some : goal.returns-in-Some
returns-in-Some c =
    rw (← c.self.view_is) (
      c.in-Some.row.at,
      omega (arith, c.if-row-end.true),
      first-taken _ _ _ c.in-Some.is,
    )

pub returns-in_default : goal.returns-in_default
returns-in_default c =
    let Above : Option End → Type 0 = λ o. IfSome o (λ first. c.args.end < first.at) in
    let above : Above c.self.inside.row = elim c.in_default.branch [
      | in_default-via-in-Some+else-row-end w ↦
          subst Above (sym w.in-Some.is) (omega (arith, w.if-row-end.false))
      | in_default-via-in_default w ↦ subst Above (sym w.in_default.is) tt
    ] in
    rw (← c.self.view_is) (heap-taken _ _ _ _ _ above c.take_up_to.ensures)
