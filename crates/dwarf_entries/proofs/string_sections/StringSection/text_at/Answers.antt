use Rattle.dwarf_entries.proofs.{refl, string-after-end, before-all}
use Rattle.dwarf_entries.proofs.string_sections.StringSection.text_at.Goals as goal

pub returns-then-offset-self : goal.returns-then-offset-self
returns-then-offset-self c =
    let none = string-after-end _ _ _ c.self.invariant c.if-offset-self.true in
    rw (← c.self.view_is, none) refl

pub returns : goal.returns
returns c =
    let found = before-all _ _ _ c.self.invariant c.if-offset-self.false in
    rw (← c.self.view_is, found.1) refl
