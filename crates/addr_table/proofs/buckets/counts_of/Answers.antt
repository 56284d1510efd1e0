use Rattle.std.proofs.Common.{◌≡◌, ◌∙◌, ℕ, ◌/◌, ◌^◌, List, length, get_or}
use Rattle.std.proofs.Common.{ap, sym, subst, arith}
use Rattle.std.proofs.lemmas.List.{get_or_default}
use Rattle.addr_table.specs.Segments.{Segment}
use Rattle.addr_table.specs.Private.Buckets.{bucket_of, AreBuckets}
use Rattle.addr_table.proofs.Searching.BucketLaws.{none-counted, one-counted}
use Rattle.addr_table.proofs.buckets.counts_of.Goals as goal

pub loop-index-init : goal.loop-index-init
loop-index-init c =
    let B : List ℕ → Type 0 = λ items. AreBuckets c.args.list.now c.args.low c.args.shift 0 items in
    record {
      buckets = subst B (sym c.in_ok-counts.ensures.items)
          (none-counted c.args.list.now c.args.low c.args.shift);
      within = omega arith;
    }

pub loop-index-preserved : goal.loop-index-preserved
loop-index-preserved c =
    let from_is : (d : Segment) → (get_or c.args.list.now c.loop-index.index d).from
    ≡ c.segment.inside.from =
    λ d. ap (λ (segment : Segment). segment.from)
    (get_or_default _ _ d _ c.loop-index-test.true ∙ sym c.index-list-index.is
    ∙ sym c.segment.view_is) in
    let bucket_is : c.saturating_sub.result / 2 ^ c.args.shift
    ≡ bucket_of c.args.low c.args.shift c.segment.inside.from =
    ap (λ x. x / 2 ^ c.args.shift) c.saturating_sub.ensures in
    record {
      buckets =
          one-counted c.args.list.now c.args.low c.args.shift c.loop-index.index
          c.segment.inside.from _ _ _ c.requires.disjoint c.loop-index-test.true from_is bucket_is
          c.loop-index.invariant.buckets c.in_ok-fill.ensures.0 c.in_ok-fill.ensures.1;
      within = omega (arith, c.loop-index-test.true);
    }

pub returns : goal.returns
returns c =
    let end : c.loop-index.index ≡ length c.args.list.now =
    omega (arith, c.loop-index-test.false, c.loop-index.invariant.within) in
    let B : ℕ → Type 0 =
    λ n. AreBuckets c.args.list.now c.args.low c.args.shift n c.loop-index.counts.items in
    let I : List ℕ → Type 0 =
    λ items. AreBuckets c.args.list.now c.args.low c.args.shift (length c.args.list.now) items in
    subst I (sym c.shrink_to_fit.ensures.items) (subst B end c.loop-index.invariant.buckets)
