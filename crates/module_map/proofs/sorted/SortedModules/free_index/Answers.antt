use Rattle.std.proofs.Common.{◌≡◌, ◌≤◌, ◌+◌, ◌-◌, ℕ, get_or, subst, arith, length}
use Rattle.module_map.specs.World.{end_of}
use Rattle.module_map.specs.Private.Serials.{NumberedModule}
use Rattle.module_map.specs.Private.Rising.{AreRising, IsNext, IsOther}
use Rattle.module_map.proofs.Gaps.{met_last, met_next, clear_all, not-own}
use Rattle.module_map.proofs.sorted.SortedModules.free_index.Goals as goal
use Rattle.module_map.proofs.sorted.SortedModules.free_index.Goals.{After-next_index-next}
use Rattle.module_map.proofs.sorted.SortedModules.free_index.Goals.{else-started-gt0-via-then-started-gt0+then-started-own+else-end-extent}
use Rattle.module_map.proofs.sorted.SortedModules.free_index.Goals.{else-started-gt0-via-then-started-gt0+else-started-own}
use Rattle.module_map.proofs.sorted.SortedModules.free_index.Goals.{else-started-gt0-via-else-started-gt0}
use Rattle.module_map.proofs.sorted.SortedModules.free_index.Goals.{else-next-len-via-then-next-len+else-start-extent}
use Rattle.module_map.proofs.sorted.SortedModules.free_index.Goals.{else-next-len-via-else-next-len}

-- the last module that starts at or before the low end ends there or before, unless it is ignored
last_ends : (c : After-next_index-next) (at : ℕ) (d : NumberedModule)
    → at + 1 ≡ c.count_started-started.result → IsOther c.args.own at
    → end_of (get_or c.args.self.now at d).loaded ≤ c.args.extent.low
last_ends c at d last other = let same : at ≡ c.count_started-started.result - 1 = omega arith in
    elim c.else-started-gt0.branch [
      | else-started-gt0-via-then-started-gt0+then-started-own+else-end-extent w ↦ let ends =
          w.if-end-extent.false in rw (same, ← w.end.ensures d) ends
      | else-started-gt0-via-then-started-gt0+else-started-own w ↦
          let own = w.if-started-own.false in
          absurd (not-own c.args.own at other (omega arith))
      | else-started-gt0-via-else-started-gt0 w ↦ let none = w.if-started-gt0.false in
          absurd (omega arith)
    ]

next_is : (c : After-next_index-next) → IsNext c.args.own (length c.args.self.now)
    c.count_started-started.result c.next_index-next.result
next_is c = subst (λ n. IsNext c.args.own n c.count_started-started.result c.next_index-next.result)
    c.len-len.ensures c.next_index-next.ensures

pub returns-then-end-extent : goal.returns-then-end-extent
returns-then-end-extent c = let ends = c.if-end-extent.true in
    met_last _ _ _ _ _ (subst AreRising c.self.view_is c.self.invariant)
    c.count_started-started.ensures.started
    c.requires _ (omega (arith, c.if-started-gt0.true)) c.if-started-own.true
    (λ d. rw (← c.end.ensures d) ends)

pub returns-then-start-extent : goal.returns-then-start-extent
returns-then-start-extent c =
    let a = (goal.at.returns-then-start-extent c).After-next_index-next in
    let begins = c.if-start-extent.true in
    met_next _ _ _ _ _ (subst AreRising c.self.view_is c.self.invariant)
    c.count_started-started.ensures.started
    c.requires (last_ends a) _ (next_is a) (omega arith) (λ d. rw (← c.start.ensures d) begins)

pub returns : goal.returns
returns c =
    let a = (goal.at.returns c).After-next_index-next in
    clear_all _ _ _ _ _ (subst AreRising c.self.view_is c.self.invariant)
    c.count_started-started.ensures.started c.requires (last_ends a) _ (next_is a)
    (λ lt d. elim c.else-next-len.branch [
      | else-next-len-via-then-next-len+else-start-extent w ↦ let from = w.if-start-extent.false in
          rw (← w.start.ensures d) from
      | else-next-len-via-else-next-len w ↦ let over = w.if-next-len.false in let len =
          c.len-len.ensures in absurd (omega arith)
    ])
