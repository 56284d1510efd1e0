use Rattle.dwarf_units.proofs.{sym, ◌∙◌, link-next, link-start}
use Rattle.dwarf_units.proofs.linked_lists.link_of.Goals as goal

pub returns-in-Some-clause-link : goal.returns-in-Some-clause-link
returns-in-Some-clause-link c =
    c.requires.links c.args.place c.in-Some.link.now (sym c.in-Some.ensures.value)

pub returns-in_default-attribute-clause-link : goal.returns-in_default-attribute-clause-link
returns-in_default-attribute-clause-link c = link-start c.args.section.now c.args.place
    c.in_ok-start.start c.requires.valid c.in_ok-start.ensures.start

pub returns-then-not-is_empty_unused-clause-link : goal.returns-then-not-is_empty_unused-clause-link
returns-then-not-is_empty_unused-clause-link c = link-start c.args.section.now c.args.place
    c.in_ok-start.start c.requires.valid c.in_ok-start.ensures.start

pub returns-in-Some-get-clause-link : goal.returns-in-Some-get-clause-link
returns-in-Some-get-clause-link c =
    link-next c.args.section.now c.args.place c.in_ok-start.start.rest
    c.in-Some-attribute.attribute c.in-Some-get.link.now c.requires.valid
    (rw c.in-Some-attribute.is at c.in_ok-start.ensures.start)
    (sym c.is_empty_unused.ensures ∙ c.if-not-is_empty_unused.false)
    (c.requires.links c.in_ok-start.start.rest c.in-Some-get.link.now
    (sym c.in-Some-get.ensures.value))

pub returns-in-None-clause-link : goal.returns-in-None-clause-link
returns-in-None-clause-link c = link-start c.args.section.now c.args.place c.in_ok-start.start
    c.requires.valid c.in_ok-start.ensures.start
