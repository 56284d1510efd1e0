use Rattle.std.proofs.Common.{◌∙◌, inr}
use Rattle.std.proofs.lemmas.Result.{err_from_is_err_and}
use Rattle.dwarf_lines.specs.Entries.{format_at}
use Rattle.dwarf_lines.proofs.Lists.Repeated.{goes_on, ends, is-done}
use Rattle.dwarf_lines.proofs.formats.format.Goals as goal

pub returns-in_err-read : goal.returns-in_err-read
returns-in_err-read c =
    let p = err_from_is_err_and c.from_residual.result c.from_residual.ensures.1 in
    rw (p.1, p.2) (inr (ends format_at c.loop.fields.items c.args.count c.loop.counter
    c.loop.cursor.bytes c.loop.cursor.place _ _ c.loop-test.true c.in_err-read.ensures
    c.loop.invariant.rest))

pub loop-preserved : goal.loop-preserved
loop-preserved c =
    let h = c.in_ok-read.ensures in
    record {
      same = h.1 ∙ c.loop.invariant.same;
      rest = rw (c.in_ok-push.ensures.items, h.1)
          (goes_on format_at c.loop.fields.items c.args.count c.loop.counter c.loop.cursor.bytes
          c.loop.cursor.place _ c.in_ok-read.field-0 c.read.new.cursor.place c.loop-test.true h.0
          c.loop.invariant.rest);
    }

pub returns : goal.returns
returns c = (
  is-done format_at c.loop.fields.items c.args.count c.loop.counter c.loop.cursor.bytes
      c.loop.cursor.place _ c.loop-test.false c.loop.invariant.rest,
  c.loop.invariant.same,
)
