use Rattle.std.proofs.Common.{Ok, ap, arith, is_some, refl, suc, true, ℕ, ◌∙◌, ◌≡◌}
use Rattle.dwarf_units.{proofs.EntryAdvances.node_at_depth-moves, specs.Entries.{Entry, Node, Null}}
use Rattle.dwarf_walk.specs.Private.Readers.{Takes, TakesNodes, WalkState, after_node, state_of}
use Rattle.dwarf_walk.proofs.walk.Walk.fixed_size_nodes.Goals as goal

-- The root stays.
still-rooted : (w : WalkState) (at : ℕ) (node : Node) → is_some w.root ≡ true
    → is_some (after_node w at node).root ≡ true
still-rooted w at Null rooted = rooted
still-rooted w at (Entry tag children attributes) rooted = grind (arith, rooted)

pub loop-shape-init : goal.loop-shape-init
unfolding TakesNodes
loop-shape-init c = record { rooted = c.requires; taken = (0, (refl, refl, refl)) }

rooted : (c : goal.In_ok-add_node) → is_some c.loop-shape.self.root ≡ true
rooted c = c.loop-shape.invariant.rooted c.in-Some.ensures.depth.0

taken : (c : goal.In_ok-add_node) → Takes c.args.table.now.format c.args.table.now.declarations
    c.args.unit.now c.loop-shape.place (state_of c.loop-shape.self c.loop-shape.depths)
    (state_of c.add_node.new.self c.add_node.new.depths) c.loop-shape.bitmap c.add_node.new.bitmap
    (Ok c.in-Some.after)
taken c =
    let found = c.in-Some.ensures.node in
    (found.0, rw (rooted c) found.1, c.in_ok-add_node.ensures found.0 found.2)

pub loop-shape-smaller : goal.loop-shape-smaller
loop-shape-smaller c =
    let found = c.in-Some.ensures.node in
    let moved = node_at_depth-moves c.args.table.now.format c.args.table.now.declarations
    c.loop-shape.depths.next true c.args.unit.now c.loop-shape.place (found.0, c.in-Some.after)
    found.1 in
    omega (arith, moved.0, moved.1)

pub loop-shape-preserved : goal.loop-shape-preserved
unfolding TakesNodes
loop-shape-preserved c =
    let before = c.loop-shape.invariant.taken in
    let node = (taken c).0 in
    record {
      rooted = λ below. ap (λ (w : WalkState). is_some w.root) (taken c).2.0 ∙ still-rooted
          (state_of c.loop-shape.self c.loop-shape.depths) c.loop-shape.place node (rooted c);
      taken = (
        suc before.0,
        (
          c.loop-shape.place,
          state_of c.loop-shape.self c.loop-shape.depths,
          c.loop-shape.bitmap,
          before.1,
          taken c,
        ),
      );
    }
