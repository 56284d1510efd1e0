use Rattle.std.proofs.Common.{◌≡◌, ◌⊎◌, inl, inr, ◌≤◌, ◌+◌, ◌-◌, ℕ, sym, subst, ◌∙◌, arith}
use Rattle.std.proofs.lemmas.Bool.{leb-true, leb-false}
use Rattle.addr_table.proofs.Searching.StepLaws.{counted-one}
use Rattle.module_map.specs.Private.Rising.{AreRising}
use Rattle.module_map.proofs.Searches.{located, located_nowhere}
use Rattle.module_map.proofs.sorted.SortedModules.locate.Goals as goal

pub returns-then-started-eq0-clause-place : goal.returns-then-started-eq0-clause-place
returns-then-started-eq0-clause-place c =
    sym (located_nowhere c.args.self.now c.args.address _
    (subst AreRising c.self.view_is c.self.invariant) c.count_started-started.ensures.started
    (λ at d last. absurd (omega (arith, c.if-started-eq0.true))))

pub returns-then-started-eq0-clause-counted : goal.returns-then-started-eq0-clause-counted
returns-then-started-eq0-clause-counted c = let n = c.count_started-started.ensures.counted in
    (n.0, (let le = n.1 in omega (arith, le)), tt, n.3)

pub returns-then-reached-clause-place : goal.returns-then-reached-clause-place
returns-then-reached-clause-place c =
    let past = leb-true c.end.result c.args.address
    (sym c.reached.ensures.answer ∙ c.if-reached.true) in
    sym (located_nowhere c.args.self.now c.args.address _
    (subst AreRising c.self.view_is c.self.invariant) c.count_started-started.ensures.started
    (λ at d last. let same : at ≡ c.count_started-started.result - 1 = omega arith in
    rw (same, ← c.end.ensures d) past))

pub returns-then-reached-clause-counted : goal.returns-then-reached-clause-counted
returns-then-reached-clause-counted c = let n = c.count_started-started.ensures.counted in (
  n.0 + 1,
  (let le = n.1 in omega (arith, le)),
  tt,
  counted-one n.0 _ _ _ n.3 c.reached.ensures.counted,
)

pub returns-clause-place : goal.returns-clause-place
returns-clause-place c =
    let to = leb-false c.end.result c.args.address
    (sym c.reached.ensures.answer ∙ c.if-reached.false) in
    sym (located c.args.self.now c.args.address _
    (subst AreRising c.self.view_is c.self.invariant) c.count_started-started.ensures.started _
    (omega (arith, c.if-started-eq0.false)) (λ d. rw (← c.end.ensures d) to))

pub returns-clause-counted : goal.returns-clause-counted
returns-clause-counted c = let n = c.count_started-started.ensures.counted in (
  n.0 + 1,
  (let le = n.1 in omega (arith, le)),
  two n.0 n.2,
  counted-one n.0 _ _ _ n.3 c.reached.ensures.counted,
)
  where
    two : (k : ℕ) → (c.count_started-started.result ≡ 0) ⊎ (1 ≤ k) → 2 ≤ k + 1
    two k (inl none) = absurd (omega (arith, c.if-started-eq0.false))
    two k (inr some) = omega arith
