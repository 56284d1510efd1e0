use Rattle.module_map.proofs.Rotations.{turned_right, turned_left}
use Rattle.std.proofs.lemmas.Bool.{le-leb, lt-leb}
use Rattle.module_map.proofs.sorted.rotate.Goals as goal

pub returns-then-at-own : goal.returns-then-at-own
returns-then-at-own c =
    λ d. rw (le-leb c.args.at c.args.own c.if-at-own.true)
    (turned_right c.args.list.now c.rotate_right.new.self c.args.own c.args.at d c.requires.own
    c.if-at-own.true c.rotate_right.ensures.after)

pub returns-else-at-own : goal.returns-else-at-own
returns-else-at-own c =
    λ d. rw (lt-leb c.args.at c.args.own c.if-at-own.false)
    (turned_left c.args.list.now c.rotate_left.new.self c.args.own c.args.at d c.if-at-own.false
    c.requires.at c.rotate_left.ensures.after)
