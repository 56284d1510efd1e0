use Rattle.addr_table.proofs.Chains.NestedChains.{last-number}
use Rattle.addr_table.proofs.scope_chain.last_number.Goals as goal

pub returns : goal.returns
returns c =
    let item = c.in_ok-last.ensures.item in
    last-number c.args.chain.now c.in_ok-last.field-0.now item.3.0 item.1
