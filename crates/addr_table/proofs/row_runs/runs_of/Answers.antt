use Rattle.std.proofs.Common.{List, ◌+◌, refl, sym, subst, arith}
use Rattle.addr_table.specs.declared.row_runs.Run.{Run}
use Rattle.addr_table.proofs.row_runs.runs_of.Goals.{then-follows, else-follows+in_ok-push}
use Rattle.addr_table.proofs.Endpoints.RowRunLaws.{AreRunsTo, runs-begin, run-extended, run-ended}
use Rattle.addr_table.proofs.row_runs.runs_of.Goals as goal

pub loop-index-init : goal.loop-index-init
loop-index-init c =
    runs-begin c.args.rows.now c.args.order.now _ c.new-runs.ensures.items
    (search (arith, c.if-is_empty.false, c.is_empty.ensures))

pub loop-index-preserved : goal.loop-index-preserved
loop-index-preserved c =
    let rows = c.args.rows.now in
    let order = c.args.order.now in
    let lt = c.loop-index-test.true in
    let To : List Run → Run → Type 0 = AreRunsTo rows order (c.loop-index.index + 1) in
    elim c.if-follows.branch [
      | then-follows w ↦ subst (To c.if-follows.runs.items) (sym w.run-is) (rw (w.runs-is)
          (run-extended rows order _ _ _ _ lt refl (c.follows.ensures.0 w.if-follows.true)
          c.loop-index.invariant))
      | else-follows+in_ok-push w ↦ subst (To c.if-follows.runs.items) (sym w.run-is)
          (rw (w.runs-is) (run-ended rows order _ _ _ _ _ lt refl w.in_ok-push.ensures.items
          c.loop-index.invariant))
    ]
