use Rattle.std.proofs.Common.{rules, arith, ◌+◌, ◌-◌, ◌<◌, sym, ap, ◌∙◌, subst}
use Rattle.buddy_arena.specs.Blocks.{Held}
use Rattle.path_copying.proofs.Setting_aside.{Going, going_start, going_child, going_none, going_end, child_less}
use Rattle.path_copying.specs.Kids.{kid_in}
use Rattle.path_copying.proofs.aside.+set_aside_all.Goals.{in-Some+in_ok-set_aside_all-in-Some, in-None}
use Rattle.path_copying.proofs.aside.+set_aside_all.Goals as goal

pub loop-slot-init : goal.loop-slot-init
loop-slot-init t c = going_start c.args.bits c.args.node.now c.args.nodes.now c.args.node_blocks.now c.args.leaf_blocks.now c.open_node.new.node_blocks c.open_node.new.leaf_blocks c.open_node.new.kids c.open_node.ensures.nodes c.open_node.ensures.leaves c.open_node.ensures.kids c.in_ok-open_node.ensures.children c.in_ok-open_node.ensures.leaf

pub overflow_sub-bits : goal.overflow_sub-bits
overflow_sub-bits t c =
    let is = sym (c.open_node.ensures.kids c.loop-slot.slot c.loop-slot-test.true) ∙ (ap (kid_in c.open_node.new.kids) (sym c.from.ensures) ∙ c.in-Some.is) in
    let l = child_less c.args.nodes.now c.requires.node.0 c.args.node.now c.in-Some.child c.args.bits c.loop-slot.slot c.loop-slot-test.true c.requires.node.1 is in
    omega (arith, l.0)

pub returns-clause-gone : goal.returns-clause-gone
returns-clause-gone t c = going_end c.args.bits c.args.node.now c.args.nodes.now c.args.node_blocks.now c.args.leaf_blocks.now c.loop-slot.node_blocks c.loop-slot.leaf_blocks c.open_node.new.kids c.loop-slot.slot c.loop-slot-test.false c.loop-slot.invariant

pub set_aside_all-requires : goal.set_aside_all-requires
set_aside_all-requires t c =
    let is = sym (c.open_node.ensures.kids c.loop-slot.slot c.loop-slot-test.true) ∙ (ap (kid_in c.open_node.new.kids) (sym c.from.ensures) ∙ c.in-Some.is) in
    let l = child_less c.args.nodes.now c.requires.node.0 c.args.node.now c.in-Some.child c.args.bits c.loop-slot.slot c.loop-slot-test.true c.requires.node.1 is in
    let less : c.args.bits - 6 < c.args.bits = omega (arith, l.0) in
    (search (rules, less), (c.requires.sized, (omega (arith, c.loop-slot.invariant.nodes_only.time, c.requires.nodes_time), (omega (arith, c.loop-slot.invariant.leaves_only.time, c.requires.leaves_time), (c.requires.node.0, l.1)))))

pub loop-slot-preserved : goal.loop-slot-preserved
loop-slot-preserved t c =
    elim c.match-kids-from.branch [
      | in-Some+in_ok-set_aside_all-in-Some w ↦
          subst (λ (x : Held). Going c.args.bits c.args.node.now c.args.nodes.now c.args.node_blocks.now c.args.leaf_blocks.now x c.match-kids-from.leaf_blocks c.open_node.new.kids (c.loop-slot.slot + 1)) (sym w.node_blocks-is)
          (subst (λ (x : Held). Going c.args.bits c.args.node.now c.args.nodes.now c.args.node_blocks.now c.args.leaf_blocks.now w.set_aside_all.new.node_blocks x c.open_node.new.kids (c.loop-slot.slot + 1)) (sym w.leaf_blocks-is)
          (going_child c.args.bits c.args.node.now c.args.nodes.now c.args.node_blocks.now c.args.leaf_blocks.now c.loop-slot.node_blocks c.loop-slot.leaf_blocks c.open_node.new.kids c.loop-slot.slot c.loop-slot-test.true c.loop-slot.invariant w.set_aside_all.new.node_blocks w.set_aside_all.new.leaf_blocks w.in-Some.child
          (ap (kid_in c.open_node.new.kids) (sym c.from.ensures) ∙ w.in-Some.is) w.set_aside_all.ensures.nodes w.set_aside_all.ensures.leaves w.in_ok-set_aside_all-in-Some.ensures.gone))
      | in-None w ↦
          subst (λ (x : Held). Going c.args.bits c.args.node.now c.args.nodes.now c.args.node_blocks.now c.args.leaf_blocks.now x c.match-kids-from.leaf_blocks c.open_node.new.kids (c.loop-slot.slot + 1)) (sym w.node_blocks-is)
          (subst (λ (x : Held). Going c.args.bits c.args.node.now c.args.nodes.now c.args.node_blocks.now c.args.leaf_blocks.now c.loop-slot.node_blocks x c.open_node.new.kids (c.loop-slot.slot + 1)) (sym w.leaf_blocks-is)
          (going_none c.args.bits c.args.node.now c.args.nodes.now c.args.node_blocks.now c.args.leaf_blocks.now c.loop-slot.node_blocks c.loop-slot.leaf_blocks c.open_node.new.kids c.loop-slot.slot c.loop-slot-test.true (ap (kid_in c.open_node.new.kids) (sym c.from.ensures) ∙ w.in-None.is) c.loop-slot.invariant))
    ]
