use Rattle.std.proofs.Common.{inr, sym}
use Rattle.dwarf_entries.proofs.UnitPasses.PassLaws.{item-fault}
use Rattle.plain_scopes.proofs.units.bases_of_root.Goals as goal

pub returns-in-Err : goal.returns-in-Err
returns-in-Err c =
    let read = rw c.root_entry.ensures at c.in-Err.ensures in
    rw (c.at_item.ensures, c.offset-at.ensures) (item-fault _ _ _ (inr (sym read)))
