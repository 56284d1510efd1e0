use Rattle.dwarf_entries.proofs.{arith, nat_le, leb-true, Root, rules, leb-false}
use Rattle.dwarf_entries.proofs.{IsPartitionedBy-leb, IsPartitionPoint-from_clause, by_partition}
use Rattle.dwarf_entries.proofs.scopes.root_by_number.Goals as goal

pub returns : goal.returns
returns c = λ rise.
    let parts = IsPartitionPoint-from_clause (λ (r : Root). nat_le r.past c.args.number)
    c.args.roots.now c.partition_point.result c.partition_point.ensures.partitioned
    (IsPartitionedBy-leb (λ (r : Root). r.past) c.args.roots.now c.args.number rise)
    (λ a r f called. search rules) in
    by_partition c.args.roots.now c.args.number c.partition_point.result
    c.partition_point.ensures.bound (grind (arith, leb-true, leb-false, parts))
