use Rattle.dwarf_units.proofs.{IsLink}
use Rattle.abbreviation_memo.proofs.MapLaws.{entries-put, entries-same}
use Rattle.dwarf_units.proofs.linked_lists.link_all.Goals as goal

pub link_of-requires-clause-valid : goal.link_of-requires-clause-valid
link_of-requires-clause-valid c =
    rw c.section.ensures (c.places-places.ensures c.loop-index.index 0 c.loop-index-test.true)

pub link_of-requires-clause-links : goal.link_of-requires-clause-links
link_of-requires-clause-links c = rw c.section.ensures c.loop-index.invariant

pub returns-in_err-insert : goal.returns-in_err-insert
returns-in_err-insert c = entries-same (IsLink c.args.lists.now) c.loop-index.links
    c.insert.new.self c.in_err-insert.ensures.err c.loop-index.invariant

pub loop-index-preserved : goal.loop-index-preserved
loop-index-preserved c = entries-put (IsLink c.args.lists.now) c.loop-index.links
    c.insert.new.self _ c.in_ok-link.link c.in_ok-insert.ensures.updates.0
    (rw c.section.ensures at c.in_ok-link.ensures.link) c.loop-index.invariant
