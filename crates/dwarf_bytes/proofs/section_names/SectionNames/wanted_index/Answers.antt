use Rattle.dwarf_bytes.proofs.Strings.SectionNames.{string-after-end, number-at}
use Rattle.dwarf_bytes.proofs.section_names.SectionNames.wanted_index.Goals as goal

pub returns-then-offset-self-clause-number : goal.returns-then-offset-self-clause-number
returns-then-offset-self-clause-number c =
    rw (← c.self.view_is) (string-after-end _ _ _ c.self.invariant c.if-offset-self.true)

pub returns-clause-number : goal.returns-clause-number
returns-clause-number c =
    rw (← c.self.view_is) (number-at _ _ _ _ c.self.invariant c.if-offset-self.false
    c.number_of.ensures.number)
