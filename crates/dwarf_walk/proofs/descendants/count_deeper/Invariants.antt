use Rattle.std.{proofs.Common.{drop, length, ◌+◌, ◌-◌, ◌≡◌}, specs.List.prefix_len}
use Rattle.dwarf_walk.specs.Private.WalkedScopes.{is_deeper}
use Rattle.dwarf_walk.proofs.descendants.count_deeper.Given as goal

abbrev pub invariant-loop-next : goal.invariant-loop-next
invariant-loop-next l = l.next + prefix_len (is_deeper l.depth) (drop l.next l.walked)
    ≡ prefix_len (is_deeper l.depth) l.walked

abbrev pub decreases-loop-next : goal.decreases-loop-next
decreases-loop-next l = length l.walked - l.next
