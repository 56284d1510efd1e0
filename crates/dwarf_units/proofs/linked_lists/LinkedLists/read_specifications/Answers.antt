use Rattle.dwarf_units.proofs.linked_lists.LinkedLists.read_specifications.Goals as goal

pub invariant_of-self : goal.invariant_of-self
invariant_of-self c = rw c.in_err-list.ensures.section c.self.invariant

pub link_all-requires : goal.link_all-requires
link_all-requires c = rw c.in_ok-list.ensures.section c.self.invariant
