use Rattle.dwarf_entries.proofs.{DW_AT_LINKAGE_NAME, DW_AT_NAME, NamedEntry, ap, first_more}
use Rattle.dwarf_entries.proofs.origin_chains.FirstNames.or.Goals as goal

pub returns : goal.returns
returns c us path m are at = record {
  name = rw c.first.ensures (first_more us DW_AT_NAME _ path m c.args.self.name _ at.unit_is
      (ap (λ (e : NamedEntry). e.name) at.entry_is) are.name);
  linkage_name = rw c.first-2.ensures (first_more us DW_AT_LINKAGE_NAME _ path m
      c.args.self.linkage_name _ at.unit_is (ap (λ (e : NamedEntry). e.linkage_name) at.entry_is)
      are.linkage_name);
}
