use Rattle.dwarf_units.proofs.{◌≡◌, ◌+◌, ℕ, ap, ◌∙◌, arith, layouts-more}
use Rattle.std.proofs.Common.{min}
use Rattle.dwarf_units.specs.NodeShapes.{code_count}
use Rattle.dwarf_units.proofs.node_layout.layouts.Goals as goal

pub loop-code-preserved : goal.loop-code-preserved
loop-code-preserved c = rw c.in_ok-push.ensures.items (layouts-more c.args.table.now.format
    c.args.table.now.declarations c.loop-code.code _ _ c.loop-code.invariant
    c.layout_of_code.ensures)

pub returns : goal.returns
returns c =
    let count : c.min-count.result + 1 ≡ code_count c.args.table.now.declarations =
    ap (λ (k : ℕ). k + 1)
    (c.min-count.ensures ∙ ap (λ (k : ℕ). min k 511) c.len.ensures) in
    let all : c.loop-code.code ≡ code_count c.args.table.now.declarations =
    omega (arith, c.loop-code-test.false, c.loop-code.auto.code-end, count) in
    rw (← all) c.loop-code.invariant
