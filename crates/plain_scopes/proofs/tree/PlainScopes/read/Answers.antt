use Rattle.dwarf_entries.proofs.UnitPasses.PassLaws.{exit, step-fault}
use Rattle.dwarf_entries.specs.{Scopes.tree_of, Units.units_read}
use Rattle.plain_scopes.proofs.tree.PlainScopes.read.Goals as goal

pub returns-in_err-parsed : goal.returns-in_err-parsed
unfolding tree_of units_read
returns-in_err-parsed c =
    let tables = rw c.deref.ensures.value at c.in_ok-tables.ensures in
    let bad = rw (c.deref-2.ensures.value, c.deref-3.ensures.value) at c.in_err-parsed.ensures in
    rw (exit _ c.from_residual-in_err-parsed.ensures.1, c.in_ok-headers.ensures, tables)
    (step-fault _ _ (step-fault _ _ bad))
