use Rattle.std.proofs.Common.{◌∙◌, inr}
use Rattle.std.proofs.lemmas.Result.{err_from_is_err_and}
use Rattle.dwarf_lines.specs.Private.Readers.{sections_of}
use Rattle.dwarf_lines.specs.Entries.{entry_at}
use Rattle.dwarf_lines.proofs.Lists.Repeated.{goes_on, ends, is-done}
use Rattle.dwarf_lines.proofs.entry_tables.FileTableReader.entries_by.Goals as goal

pub returns-in_err-entry : goal.returns-in_err-entry
returns-in_err-entry c =
    let p = err_from_is_err_and c.from_residual.result c.from_residual.ensures.1 in
    let item = entry_at (sections_of c.args.self.now.sections) c.args.self.now.format
    c.args.self.now.table c.args.fields.now in
    rw (p.1, p.2) (inr (ends item c.loop.entries.items c.args.count c.loop.counter
    c.loop.cursor.bytes c.loop.cursor.place _ _ c.loop-test.true c.in_err-entry.ensures
    c.loop.invariant.rest))

pub loop-preserved : goal.loop-preserved
loop-preserved c =
    let h = c.in_ok-entry.ensures in
    let item = entry_at (sections_of c.args.self.now.sections) c.args.self.now.format
    c.args.self.now.table c.args.fields.now in
    record {
      same = h.1 ∙ c.loop.invariant.same;
      rest = rw (c.in_ok-push.ensures.items, h.1)
          (goes_on item c.loop.entries.items c.args.count c.loop.counter c.loop.cursor.bytes
          c.loop.cursor.place _ c.in_ok-entry.field-0 c.entry.new.cursor.place c.loop-test.true h.0
          c.loop.invariant.rest);
    }

pub returns : goal.returns
returns c =
    let item = entry_at (sections_of c.args.self.now.sections) c.args.self.now.format
    c.args.self.now.table c.args.fields.now in (
      is-done item c.loop.entries.items c.args.count c.loop.counter c.loop.cursor.bytes
          c.loop.cursor.place _ c.loop-test.false c.loop.invariant.rest,
      c.loop.invariant.same,
    )
