use Rattle.std.proofs.Common.{◌∙◌, sym}
use Rattle.addr_table.proofs.Endpoints.RowOrderLaws.{covering-here, covering-later}
use Rattle.addr_table.proofs.row_order.next_covering.Goals as goal

pub returns-then-covers : goal.returns-then-covers
returns-then-covers c = (
  c.loop-number-test.true,
  sym c.loop-number.invariant
      ∙ covering-here _ _ c.loop-number-test.true (sym c.covers.ensures ∙ c.if-covers.true),
)

pub loop-number-preserved : goal.loop-number-preserved
loop-number-preserved c =
    sym (covering-later _ _ c.loop-number-test.true (sym c.covers.ensures ∙ c.if-covers.false))
    ∙ c.loop-number.invariant
