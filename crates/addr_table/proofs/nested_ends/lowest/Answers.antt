use Rattle.std.proofs.Common.{◌∙◌, ◌-◌, length, ap, sym, arith}
use Rattle.addr_table.specs.declared.open_ends.End.{End}
use Rattle.std.proofs.lemmas.List.{get_or_default}
use Rattle.addr_table.proofs.Endpoints.NestedEndLaws.{stack-below}
use Rattle.addr_table.proofs.nested_ends.lowest.Goals as goal

pub returns-in-Some : goal.returns-in-Some
returns-in-Some c =
    let stack = c.args.stack.now in
    let item = c.in-Some.ensures.item in
    let end = c.in-Some.end.now in (
      item.3.0,
      stack-below stack end end.at c.requires item.3.0 item.1 (omega arith),
      λ d. ap (λ (e : End). e.at)
          (get_or_default stack (length stack - 1) d end (omega (arith, item.3.0)) ∙ sym item.1),
    )
