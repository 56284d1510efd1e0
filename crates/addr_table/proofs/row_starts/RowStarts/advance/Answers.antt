use Rattle.std.proofs.Common.{◌∙◌, ◌<◌, ◌+◌, get_or, length, map, ap, sym, subst, arith, rules}
use Rattle.std.proofs.lemmas.List.{length-map}
use Rattle.addr_table.specs.Private.RowOrder.{row_start}
use Rattle.addr_table.specs.Private.RowRuns.{RowCursor, no_run, rows_in}
use Rattle.addr_table.proofs.Endpoints.RowCursorLaws.{row-taken, run-left, run-taken}
use Rattle.addr_table.proofs.row_starts.RowStarts.advance.Goals.{After-rest_of-later}
use Rattle.addr_table.proofs.row_starts.RowStarts.advance.Goals as goal

-- a run is left
within : (c : After-rest_of-later) → c.self.inside.index < length c.self.inside.runs.items
within c =
    let r = c.self.inside in
    let P : RowCursor → Type 0 = λ x. x.taken < length x.all in
    let lt : r.taken < length (map (row_start r.rows.now) (rows_in r.rows.now r.runs.items)) =
    subst P (sym c.self.view_is) c.requires.within in
    run-left _ _ _ _ _ c.self.invariant.0
    (omega (arith, lt, length-map (rows_in r.rows.now r.runs.items) (row_start r.rows.now)))

pub invariant_of-self : goal.invariant_of-self
invariant_of-self c = (
  row-taken _ _ _ _ _ _ c.self.invariant.0
      (within (goal.at.invariant_of-self c).After-rest_of-later) c.in-Some.ensures,
  record {
    start_is = c.start_of-self-inside.ensures;
    few = search rules;
  },
)

pub invariant_of-self-2 : goal.invariant_of-self-2
invariant_of-self-2 c = (
  run-taken _ _ _ _ _ _ c.self.invariant.0
      (within (goal.at.invariant_of-self-2 c).After-rest_of-later)
      (c.run_at-self-inside.ensures
      ∙ ap (λ runs. get_or runs (c.self.inside.index + 1) no_run) c.deref.ensures.value)
      c.in_default.ensures,
  record {
    start_is = c.start_of-self-inside-2.ensures;
    few = search rules;
  },
)
