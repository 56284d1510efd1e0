use Rattle.dwarf_units.proofs.{inl, inr, refl, ◌∙◌, added, cached-truncated}
use Rattle.dwarf_forms.proofs.Elements.{at-end}
use Rattle.dwarf_units.proofs.table_store.TableStore.add.Goals as goal

pub invariant_of-self-in_err-push : goal.invariant_of-self-in_err-push
invariant_of-self-in_err-push c = cached-truncated c.args.table.format c.args.table.offset
    (rw (← c.self.view_is) at c.requires.new) (rw c.key.ensures at c.in_ok-insert.ensures.updates.0)
    (rw c.truncate.ensures.items at c.in_err-push.ensures.items) c.self.invariant

pub invariant_of-self-then-size-self : goal.invariant_of-self-then-size-self
invariant_of-self-then-size-self c = (added _ _ c.args.table c.size-size.result
    (rw (← c.self.view_is) at c.requires.new) (rw c.key.ensures at c.in_ok-insert.ensures.updates.0)
    (rw (← c.self.view_is) at c.requires.parsed)
    (rw c.truncate.ensures.items at c.in_ok-push.ensures.items)
    (rw c.table.view_is at c.size-size.ensures)
    (inl (c.if-size-self.true, c.len-self-inside.ensures ∙ c.push.new.self.ok.0, refl))
    c.self.invariant).0

pub invariant_of-self-else-size-self : goal.invariant_of-self-else-size-self
invariant_of-self-else-size-self c = (added _ _ c.args.table c.size-size.result
    (rw (← c.self.view_is) at c.requires.new) (rw c.key.ensures at c.in_ok-insert.ensures.updates.0)
    (rw (← c.self.view_is) at c.requires.parsed)
    (rw c.truncate.ensures.items at c.in_ok-push.ensures.items)
    (rw c.table.view_is at c.size-size.ensures)
    (inr (c.if-size-self.false, refl, refl)) c.self.invariant).0

pub returns-then-size-self-clause-added : goal.returns-then-size-self-clause-added
returns-then-size-self-clause-added c =
    let is = rw c.truncate.ensures.items at c.in_ok-push.ensures.items in
    let at = rw c.truncate.ensures.items at (c.len-number.ensures ∙ c.truncate.new.self.ok.0) in (
      rw (← c.self.view_is) (added _ _ {next = c.insert.new.self} c.args.table c.size-size.result
          (rw (← c.self.view_is) at c.requires.new)
          (rw c.key.ensures at c.in_ok-insert.ensures.updates.0)
          (rw (← c.self.view_is) at c.requires.parsed) is
          (rw c.table.view_is at c.size-size.ensures)
          (inl (c.if-size-self.true, c.len-self-inside.ensures ∙ c.push.new.self.ok.0, refl))
          c.self.invariant).1,
      rw is (at-end _ c.args.table c.len-number.result at),
    )

pub returns-else-size-self-clause-added : goal.returns-else-size-self-clause-added
returns-else-size-self-clause-added c =
    let is = rw c.truncate.ensures.items at c.in_ok-push.ensures.items in
    let at = rw c.truncate.ensures.items at (c.len-number.ensures ∙ c.truncate.new.self.ok.0) in (
      rw (← c.self.view_is) (added _ _ {next = c.insert.new.self} c.args.table c.size-size.result
          (rw (← c.self.view_is) at c.requires.new)
          (rw c.key.ensures at c.in_ok-insert.ensures.updates.0)
          (rw (← c.self.view_is) at c.requires.parsed) is
          (rw c.table.view_is at c.size-size.ensures)
          (inr (c.if-size-self.false, refl, refl)) c.self.invariant).1,
      rw is (at-end _ c.args.table c.len-number.result at),
    )
