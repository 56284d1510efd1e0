use Rattle.std.proofs.Common.{◌∙◌}
use Rattle.std.proofs.lemmas.Result.{err_from_is_err_and}
use Rattle.dwarf_lines.proofs.Headers.FieldTurns.{goes_on, ends, is-done}
use Rattle.dwarf_lines.proofs.entry_tables.FileTableReader.fields.Goals as goal

pub returns-in_err-entry : goal.returns-in_err-entry
returns-in_err-entry c =
    let p = err_from_is_err_and c.from_residual.result c.from_residual.ensures.1 in
    rw (p.1, p.2) (ends _ _ _ c.args.fields.now c.loop-field.field-index _ c.loop-field.entry
    c.loop-field.cursor.bytes c.loop-field.cursor.place _ _ c.loop-field-test.true
    c.in_err-entry.ensures c.loop-field.invariant.rest)

pub loop-field-preserved : goal.loop-field-preserved
loop-field-preserved c =
    let h = c.in_ok-entry.ensures in
    record {
      same = h.1 ∙ c.loop-field.invariant.same;
      rest = rw h.1 (goes_on _ _ _ c.args.fields.now c.loop-field.field-index _ c.loop-field.entry
          c.loop-field.cursor.bytes c.loop-field.cursor.place _ c.in_ok-entry.entry
          c.with_field.new.cursor.place c.loop-field-test.true h.0 c.loop-field.invariant.rest);
    }

pub returns : goal.returns
returns c = (
  is-done _ _ _ c.args.fields.now c.loop-field.field-index c.loop-field.entry
      c.loop-field.cursor.bytes c.loop-field.cursor.place _ c.loop-field-test.false
      c.loop-field.invariant.rest,
  c.loop-field.invariant.same,
)
