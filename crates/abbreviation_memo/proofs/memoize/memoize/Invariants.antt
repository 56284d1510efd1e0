use Rattle.std.proofs.Common.{length, ◌≡◌}
use Rattle.abbreviation_memo.proofs.memoize.memoize.Given as goal

abbrev pub invariant-loop-place : goal.invariant-loop-place
invariant-loop-place l = l.lists ≡ l.fn.lists

abbrev pub decreases-loop-place : goal.decreases-loop-place
decreases-loop-place l = length l.places.items
