use Rattle.std.proofs.Common.{◌≡◌, ◌∙◌, ℕ, ◌+◌, ◌-◌, ◌/◌, ◌^◌, ◌≤◌, List, length, get_or, ap, sym}
use Rattle.std.proofs.Common.{subst, arith}
use Rattle.addr_table.specs.Private.Buckets.{bucket_of, AreBounds}
use Rattle.addr_table.proofs.Searching.BucketLaws.{bounds-of, stopped}
use Rattle.addr_table.proofs.buckets.Buckets.bounds.Goals as goal

pub returns : goal.returns
returns c = λ list is h.
    let items : List ℕ = c.args.self.now.counts.items in
    let shift : ℕ = c.args.self.now.shift in
    let total : ℕ = c.args.total in
    let b : ℕ = c.saturating_sub.result / 2 ^ shift in
    let b_is : b ≡ bucket_of c.args.self.now.low shift c.args.link =
    ap (λ x. x / 2 ^ shift) c.saturating_sub.ensures in
    let all = bounds-of list c.args.self.now.low shift c.args.link total b (b + 1) items h is b_is
    (omega arith) in
    let low : c.saturating_sub-low.result ≡ get_or items b total - 1 =
    c.saturating_sub-low.ensures ∙ ap (λ n. n - 1) c.below.ensures in
    let short : length items ≤ 2 ^ 64 - 1 = omega (arith, c.args.self.now.counts.ok) in
    let high : c.below-2.result ≡ get_or items (b + 1) total =
    c.below-2.ensures ∙ stopped items b c.saturating_add.result total c.saturating_add.ensures short
    in
    let L : ℕ → Type 0 = λ n. AreBounds list c.args.link n (get_or items (b + 1) total) in
    let H : ℕ → Type 0 = λ n. AreBounds list c.args.link c.saturating_sub-low.result n in
    subst H (sym high) (subst L (sym low) all)
