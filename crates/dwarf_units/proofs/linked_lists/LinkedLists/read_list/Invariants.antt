use Rattle.dwarf_units.proofs.{◌≡◌, ◌-◌, length, IfSome, option_map_or, IsListAt, list_at}
use Rattle.dwarf_units.proofs.{stored_attributes_at, used_after}
use Rattle.abbreviation_memo.specs.Lists.{list_from}
use Rattle.dwarf_units.proofs.linked_lists.LinkedLists.read_list.Given as goal

abbrev pub invariant-loop-link : goal.invariant-loop-link
invariant-loop-link l = record {
  valid : IfSome l.link.attribute (λ _. IsListAt l.self l.link.rest);
  bytes : l.cursor.bytes ≡ l.fn.cursor.bytes;
  stored : used_after l.found (stored_attributes_at l.keep l.format
      (list_from l.self l.link.attribute l.link.rest) l.fn.cursor.bytes l.cursor.place)
      ≡ used_after l.fn.found (stored_attributes_at l.keep l.format (list_at l.self l.place)
      l.fn.cursor.bytes l.fn.cursor.place);
}

abbrev pub decreases-loop-link : goal.decreases-loop-link
decreases-loop-link l = option_map_or (λ _. length l.self - l.link.rest) l.link.attribute 0
