use Rattle.std.proofs.Common.{◌≡◌, ℕ, ◌+◌, ◌-◌, ◌/◌, ◌<◌, ◌≤◌, length, get_or, ap, sym, ◌∙◌, arith}
use Rattle.std.proofs.Common.{true, false, Bool}
use Rattle.std.proofs.lemmas.List.{get_or_default}
use Rattle.std.specs.Prelude.{nat_le}
use Rattle.std.proofs.lemmas.Bool.Decides.{nat_tests}
use Rattle.addr_table.specs.Segments.{Segment}
use Rattle.addr_table.proofs.Searching.SearchLaws.{searching-low, searching-high, counted-more}
use Rattle.addr_table.proofs.Searching.SearchLaws.{counted-all}
use Rattle.addr_table.proofs.Searching.SearchLaws.{counted-none}
use Rattle.addr_table.proofs.segments.count_started.Goals as goal
use Rattle.addr_table.proofs.segments.count_started.Goals.{After-reached}

-- where the middle segment starts
middle : (c : After-reached) (d : Segment)
    → (get_or c.args.list.now (c.loop-low.low + (c.loop-low.high - c.loop-low.low) / 2) d).from
    ≡ c.segment.inside.from
middle c d =
    let within : c.loop-low.high ≤ length c.args.list.now =
    c.loop-low.invariant.searching.within in
    let lt : c.loop-low.low + (c.loop-low.high - c.loop-low.low) / 2 < length c.args.list.now =
    omega (arith, c.loop-low-test.true) in
    ap (λ (segment : Segment). segment.from) (get_or_default _ _ d _ lt ∙ sym c.index-list-middle.is
    ∙ sym c.segment.view_is)

reached : (r from a : ℕ) (b : Bool) → b ≡ nat_le r a → b ≡ true → from ≡ r → from ≤ a
reached r from a b is met same = grind (arith, nat_tests)

beyond : (r from a : ℕ) (b : Bool) → b ≡ nat_le r a → b ≡ false → from ≡ r → a < from
beyond r from a b is unmet same = grind (arith, nat_tests)

pub loop-low-preserved-then-reached : goal.loop-low-preserved-then-reached
loop-low-preserved-then-reached c =
    let a = (goal.at.loop-low-preserved-then-reached c).After-reached in
    record {
      searching =
          searching-low _ _ _ _ _ c.loop-low.invariant.searching
          (omega (arith, c.loop-low-test.true))
          (λ d. reached _ _ _ _ c.reached.ensures.answer c.if-reached.true (middle a d));
      counted =
          counted-more _ _ _ _ _ _ c.loop-low.invariant.counted
          (omega (arith, c.loop-low-test.true))
          (omega (arith, c.loop-low-test.true)) c.reached.ensures.counted;
      top = omega (arith, c.loop-low.invariant.top, c.loop-low-test.true);
    }

pub loop-low-preserved : goal.loop-low-preserved
loop-low-preserved c =
    let a = (goal.at.loop-low-preserved c).After-reached in
    record {
      searching =
          searching-high _ _ _ _ _ c.loop-low.invariant.searching (omega arith)
          (omega (arith, c.loop-low-test.true))
          (λ d. beyond _ _ _ _ c.reached.ensures.answer c.if-reached.false (middle a d));
      counted =
          counted-more _ _ _ _ _ _ c.loop-low.invariant.counted
          (omega (arith, c.loop-low-test.true))
          (omega (arith, c.loop-low-test.true)) c.reached.ensures.counted;
      top = omega (arith, c.loop-low.invariant.top, c.loop-low-test.true);
    }

pub loop-low-init : goal.loop-low-init
loop-low-init c = record {
  searching = record {
    order = c.requires.order;
    within = c.requires.within;
    before = c.requires.before;
    after = c.requires.after;
  };
  counted = counted-none _ _;
  top = omega arith;
}

pub returns-clause-counted : goal.returns-clause-counted
returns-clause-counted c =
    let took =
    counted-all _ _ _ _ (omega (arith, c.loop-low-test.false)) c.loop-low.invariant.counted in
    let within = c.requires.within in
    let order = c.loop-low.invariant.searching.order in (
      took.0,
      λ k lt. took.1 k (omega (arith, lt, within)),
      λ some. took.2
          (let less = c.requires.some (omega (arith, some, order, c.loop-low.invariant.top)) in
          omega (arith, less)),
      took.3,
    )
