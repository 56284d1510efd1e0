use Rattle.std.proofs.Common.{length, ◌+◌, ◌-◌}
use Rattle.abbreviation_memo.proofs.memoize.new_places.Given as goal

abbrev pub decreases-loop-alloc : goal.decreases-loop-alloc
decreases-loop-alloc l = length l.lists + 1 - l.place
