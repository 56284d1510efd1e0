use Rattle.std.proofs.Common.{◌≡◌, ℕ}
use Rattle.addr_table.specs.Private.Bits.{has, is_filled}
use Rattle.addr_table.proofs.ActiveSet.FirstLaws.{first-same, first-in-word}
use Rattle.addr_table.proofs.active.Active.find.Goals.{After-as_slice-words}
use Rattle.addr_table.proofs.active.Active.find.Goals as goal

-- a key has a range if its bit is set
same : (c : After-as_slice-words) (k : ℕ)
    → has c.as_slice-words.result.now k ≡ is_filled c.args.self.now.counts k
same c k =
    rw (c.as_slice-words.ensures.value, ← c.self.view_is) (c.self.invariant.words_are.same k)

pub returns-then-is_in_word : goal.returns-then-is_in_word
returns-then-is_in_word c =
    let at = goal.at.returns-then-is_in_word c in
    let words = c.as_slice-words.result.now in
    first-same (has words) (is_filled c.args.self.now.counts) _ _ _
    (λ k low high. same at.After-as_slice-words k)
    (first-in-word words _ _ _ _ (c.is_in_word.ensures.0 c.if-is_in_word.true)
    c.first_in_word.ensures.first c.before-then-is_in_word.ensures)

pub returns : goal.returns
returns c =
    let at = goal.at.returns c in
    let words = c.as_slice-words.result.now in
    first-same (has words) (is_filled c.args.self.now.counts) _ _ _
    (λ k low high. same at.After-as_slice-words k)
    (c.before-2.ensures (has words) c.args.from c.first_word-first.ensures)
