use Rattle.dwarf_ranges.proofs.ScopeBudget.{budget-left}
use Rattle.plain_scopes.proofs.scopes.covers_of.Goals as goal

pub returns-clause-budget : goal.returns-clause-budget
returns-clause-budget c =
    let entry = c.scope_entry.result in
    budget-left c.args.budget c.in_ok-items.items _ c.args.bases.now entry.low_pc entry.high_pc
    entry.ranges c.new-ranges.result.items c.covers.new.all.items c.in_ok-items.ensures
