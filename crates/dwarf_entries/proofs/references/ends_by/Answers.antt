use Rattle.dwarf_entries.proofs.{arith, nat_le, leb-true, UnitEntries, rules, leb-false}
use Rattle.dwarf_entries.proofs.{IsPartitionedBy-leb, IsPartitionPoint-from_clause}
use Rattle.dwarf_entries.proofs.references.ends_by.Goals as goal

pub returns-clause-parts : goal.returns-clause-parts
returns-clause-parts c = λ rise.
    let parts = IsPartitionPoint-from_clause
    (λ (u : UnitEntries). nat_le u.header.end c.args.offset) c.args.units.now
    c.partition_point.result c.partition_point.ensures.partitioned
    (IsPartitionedBy-leb (λ (u : UnitEntries). u.header.end) c.args.units.now c.args.offset
    rise) (λ a r f called. search rules) in
    grind (arith, leb-true, leb-false, parts)
