use Rattle.std.proofs.Common.{◌∷◌, []}
use Rattle.std.proofs.lemmas.List.Elements.{All-append}
use Rattle.addr_table.specs.Private.RowRuns.{Ascends}
use Rattle.addr_table.proofs.Endpoints.SequenceRunLaws.{ascends-one, runs-more, runs-fewer}
use Rattle.addr_table.proofs.sequence_runs.file_runs.Goals as goal

pub loop-first-preserved : goal.loop-first-preserved
loop-first-preserved c =
    let run = c.run_from-run.result in
    let items = c.in_ok-push.ensures.items in (
      runs-more _ _ _ run _ _ _ items c.run_from-run.ensures c.in-Some.ensures.1
          c.loop-first.invariant.0,
      rw items (All-append (Ascends c.args.rows.now) _ (run ∷ []) c.loop-first.invariant.1
          (ascends-one c.args.rows.now run c.run_from-run.ensures.ascends)),
    )

pub loop-first-smaller : goal.loop-first-smaller
loop-first-smaller c =
    runs-fewer _ _ _ c.run_from-run.result c.run_from-run.ensures c.in-Some.ensures.1
