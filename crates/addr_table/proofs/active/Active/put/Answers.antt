use Rattle.std.proofs.Common.{◌≡◌, ◌∙◌, ℕ, List, ◌+◌, get_or, set, sym, subst, arith}
use Rattle.addr_table.specs.Private.Active.{counts_of, IsIndexed}
use Rattle.addr_table.proofs.ActiveSet.ActiveLaws.{indexed-insert}
use Rattle.addr_table.proofs.ActiveSet.KeyCounts.{counts-first, key-below}
use Rattle.addr_table.proofs.active.Active.put.Goals as goal
use Rattle.addr_table.proofs.active.Active.put.Goals.{After-set_bit-3}

-- the counts after the first range of a key
first : (c : After-set_bit-3) → counts_of c.self.inside.keys c.set_bit.new.words.items
    c.self.inside.further.items
    ≡ set (counts_of c.self.inside.keys c.self.inside.words.items c.self.inside.further.items)
    c.args.key (get_or (counts_of c.self.inside.keys c.self.inside.words.items
    c.self.inside.further.items) c.args.key 0 + 1)
first c =
    counts-first c.self.inside.keys c.self.inside.words.items c.self.inside.further.items
    c.set_bit.new.words.items c.args.key (key-below c.self.inside.keys
    c.self.inside.words.items c.self.inside.further.items c.args.key
    (rw (← c.self.view_is) at c.requires.key))
    (c.self.invariant.words_are.same c.args.key ∙ (rw (← c.self.view_is) at c.requires.none))
    c.set_bit.ensures.bits

pub invariant_of-self : goal.invariant_of-self
invariant_of-self c =
    let counts = counts_of c.self.inside.keys c.self.inside.words.items
    c.self.inside.further.items in
    let I : List ℕ → Type 0 = λ cs. IsIndexed cs c.set_bit.new.words.items
    c.set_bit-2.new.words.items c.set_bit-3.new.words.items in
    subst I (sym (first (goal.at.invariant_of-self c).After-set_bit-3))
    (indexed-insert counts _ _ _ _ _ _ c.args.key _ c.self.invariant
    (rw (← c.self.view_is) at c.requires.key) (omega arith)
    c.set_bit.ensures.len c.set_bit-2.ensures.len c.set_bit-3.ensures.len
    c.set_bit.ensures.bits c.set_bit.ensures.filled c.set_bit-2.ensures.bits
    c.set_bit-2.ensures.filled c.set_bit-3.ensures.bits)

pub returns-clause-counts : goal.returns-clause-counts
returns-clause-counts c =
    rw (← c.self.view_is) (first (goal.at.returns-clause-counts c).After-set_bit-3)
