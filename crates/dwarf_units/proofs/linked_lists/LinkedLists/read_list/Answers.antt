use Rattle.dwarf_units.proofs
use proofs.{◌≡◌, ◌≤◌, length, ◌∙◌, arith, IsLink, first_read}
use Rattle.abbreviation_memo.proofs.ListLaws.{list-within}
use Rattle.dwarf_units.proofs.linked_lists.LinkedLists.read_list.Goals as goal

pub link_of-requires-clause-links : goal.link_of-requires-clause-links
link_of-requires-clause-links c = rw c.section-section.ensures c.self.invariant

pub link_of-requires-in-Some-clause-links : goal.link_of-requires-in-Some-clause-links
link_of-requires-in-Some-clause-links c = rw c.section-section.ensures c.self.invariant

next-link : (c : goal.In_ok-link-2) → IsLink c.args.self.now c.loop-link.link.rest
    c.in_ok-link-2.link
next-link c = rw (c.section-section.ensures, c.self.view_is) at c.in_ok-link-2.ensures.link

pub loop-link-smaller : goal.loop-link-smaller
loop-link-smaller c =
    let within = list-within c.args.self.now c.loop-link.link.rest in
    rw c.in-Some.is
    (grind (arith, within, c.in-Some.is, c.loop-link.invariant.valid, (next-link c).after))

pub loop-link-preserved : goal.loop-link-preserved
loop-link-preserved c =
    let loop = c.loop-link in
    let same : c.read_one.new.cursor.bytes ≡ c.args.cursor.now.bytes =
    c.in_ok-read_one.ensures.1 ∙ loop.invariant.bytes in
    let within : c.read_one.new.cursor.place ≤ length c.args.cursor.now.bytes =
    rw (← same) (omega (arith, c.place-in-Some.ensures.place, c.place-in-Some.ensures.within)) in
    record {
      valid = grind (arith, (next-link c).after);
      bytes = same;
      stored = grind (
        arith,
        first_read c.args.keep c.args.format c.in-Some.attribute,
        loop.invariant,
        (next-link c).stored c.args.keep c.args.format c.args.cursor.now.bytes,
      );
    }
