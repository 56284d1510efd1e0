use Rattle.dwarf_units.proofs.{arith, shape-there, sym, ◌∙◌}
use Rattle.dwarf_units.proofs.unit_table.UnitTable.fixed_size_node.Goals as goal

pub returns-clause-node : goal.returns-clause-node
returns-clause-node c =
    let layout = rw c.in-Some.is at c.in_ok-layout.ensures in
    rw c.from.ensures (shape-there c.args.self.now c.args.depth c.in_ok-code.code
    c.in_ok-code.start c.args.bytes.now c.args.place c.in-Some.layout.shape
    (sym layout.shape) (sym c.short_code.ensures.code ∙ c.in_ok-code.was)
    (omega (arith, c.if-depth-eq0.false)) (omega (arith, c.if-depth-gt-DEPTH_LIMIT.false))
    (omega (arith, c.if-after-bytes.false, c.from.ensures)))
