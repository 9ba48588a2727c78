use Rattle.std.proofs.Common.{rules, arith, ◌+◌, ◌<◌, ap, sym, ◌∙◌, subst, ℕ}
use Rattle.buddy_arena.specs.Space.{Space}
use Rattle.poptrie_build.specs.declared.node.Node.{Node}
use Rattle.poptrie_build.specs.Making.{slot_kind}
use Rattle.poptrie_build.proofs.Directing.{small_len}
use Rattle.path_copying.specs.Kids.{kid_in}
use Rattle.path_copying.proofs.Writing.{Writing, node_spot, leaf_spot, child_written, leaf_written, not_empty}
use Rattle.path_copying.proofs.children.write_slots.Goals.{in-Some, in-None+in-Some-kinds, in-None+in-None-kinds}
use Rattle.path_copying.proofs.children.write_slots.Goals as goal

pub overflow_add-node : goal.overflow_add-node
overflow_add-node c =
    let p = node_spot c.args.node.now c.args.kinds.now c.args.kids.now c.args.nodes.now c.loop-slot.nodes c.args.leaves.now c.loop-slot.leaves c.loop-slot.slot c.loop-slot-test.true c.requires.canonical c.requires.matched c.loop-slot.invariant c.in-Some.child c.rank.result (ap (kid_in c.args.kids.now) (sym c.from.ensures) ∙ c.in-Some.is) c.rank.ensures c.requires.nodes_out in
    let m = small_len c.loop-slot.nodes c.loop-slot.invariant.nodes_only.sized in
    let h : c.args.node.now.base1 + c.rank.result < 4294967296 = omega (arith, p.within, m, p.some) in
    search (rules, h)

pub overflow_sub-node : goal.overflow_sub-node
overflow_sub-node c =
    let p = node_spot c.args.node.now c.args.kinds.now c.args.kids.now c.args.nodes.now c.loop-slot.nodes c.args.leaves.now c.loop-slot.leaves c.loop-slot.slot c.loop-slot-test.true c.requires.canonical c.requires.matched c.loop-slot.invariant c.in-Some.child c.rank.result (ap (kid_in c.args.kids.now) (sym c.from.ensures) ∙ c.in-Some.is) c.rank.ensures c.requires.nodes_out in
    omega (arith, p.some)

pub put-requires-clause-out : goal.put-requires-clause-out
put-requires-clause-out c = (node_spot c.args.node.now c.args.kinds.now c.args.kids.now c.args.nodes.now c.loop-slot.nodes c.args.leaves.now c.loop-slot.leaves c.loop-slot.slot c.loop-slot-test.true c.requires.canonical c.requires.matched c.loop-slot.invariant c.in-Some.child c.rank.result (ap (kid_in c.args.kids.now) (sym c.from.ensures) ∙ c.in-Some.is) c.rank.ensures c.requires.nodes_out).is_out

pub put-requires-clause-within : goal.put-requires-clause-within
put-requires-clause-within c = (node_spot c.args.node.now c.args.kinds.now c.args.kids.now c.args.nodes.now c.loop-slot.nodes c.args.leaves.now c.loop-slot.leaves c.loop-slot.slot c.loop-slot-test.true c.requires.canonical c.requires.matched c.loop-slot.invariant c.in-Some.child c.rank.result (ap (kid_in c.args.kids.now) (sym c.from.ensures) ∙ c.in-Some.is) c.rank.ensures c.requires.nodes_out).within

pub overflow_add-node-in-Some-kinds : goal.overflow_add-node-in-Some-kinds
overflow_add-node-in-Some-kinds c =
    let p = leaf_spot c.args.node.now c.args.kinds.now c.args.kids.now c.args.nodes.now c.loop-slot.nodes c.args.leaves.now c.loop-slot.leaves c.loop-slot.slot c.loop-slot-test.true c.requires.canonical c.requires.matched c.loop-slot.invariant c.in-Some-kinds.hop c.rank-in-Some-kinds.result (ap (slot_kind c.args.kinds.now) (sym c.from-in-None.ensures) ∙ c.in-Some-kinds.is) c.rank-in-Some-kinds.ensures c.requires.leaves_out in
    let m = small_len c.loop-slot.leaves c.loop-slot.invariant.leaves_only.sized in
    let h : c.args.node.now.base0 + c.rank-in-Some-kinds.result < 4294967296 = omega (arith, p.within, m, p.some) in
    search (rules, h)

pub overflow_sub-node-in-Some-kinds : goal.overflow_sub-node-in-Some-kinds
overflow_sub-node-in-Some-kinds c =
    let p = leaf_spot c.args.node.now c.args.kinds.now c.args.kids.now c.args.nodes.now c.loop-slot.nodes c.args.leaves.now c.loop-slot.leaves c.loop-slot.slot c.loop-slot-test.true c.requires.canonical c.requires.matched c.loop-slot.invariant c.in-Some-kinds.hop c.rank-in-Some-kinds.result (ap (slot_kind c.args.kinds.now) (sym c.from-in-None.ensures) ∙ c.in-Some-kinds.is) c.rank-in-Some-kinds.ensures c.requires.leaves_out in
    omega (arith, p.some)

pub put-requires-in-Some-kinds-clause-out : goal.put-requires-in-Some-kinds-clause-out
put-requires-in-Some-kinds-clause-out c = (leaf_spot c.args.node.now c.args.kinds.now c.args.kids.now c.args.nodes.now c.loop-slot.nodes c.args.leaves.now c.loop-slot.leaves c.loop-slot.slot c.loop-slot-test.true c.requires.canonical c.requires.matched c.loop-slot.invariant c.in-Some-kinds.hop c.rank-in-Some-kinds.result (ap (slot_kind c.args.kinds.now) (sym c.from-in-None.ensures) ∙ c.in-Some-kinds.is) c.rank-in-Some-kinds.ensures c.requires.leaves_out).is_out

pub put-requires-in-Some-kinds-clause-within : goal.put-requires-in-Some-kinds-clause-within
put-requires-in-Some-kinds-clause-within c = (leaf_spot c.args.node.now c.args.kinds.now c.args.kids.now c.args.nodes.now c.loop-slot.nodes c.args.leaves.now c.loop-slot.leaves c.loop-slot.slot c.loop-slot-test.true c.requires.canonical c.requires.matched c.loop-slot.invariant c.in-Some-kinds.hop c.rank-in-Some-kinds.result (ap (slot_kind c.args.kinds.now) (sym c.from-in-None.ensures) ∙ c.in-Some-kinds.is) c.rank-in-Some-kinds.ensures c.requires.leaves_out).within

pub loop-slot-preserved : goal.loop-slot-preserved
loop-slot-preserved c =
    elim c.match-kids-from.branch [
      | in-Some w ↦
          let is = ap (kid_in c.args.kids.now) (sym c.from.ensures) ∙ w.in-Some.is in
          let p = node_spot c.args.node.now c.args.kinds.now c.args.kids.now c.args.nodes.now c.loop-slot.nodes c.args.leaves.now c.loop-slot.leaves c.loop-slot.slot c.loop-slot-test.true c.requires.canonical c.requires.matched c.loop-slot.invariant w.in-Some.child w.rank.result is w.rank.ensures c.requires.nodes_out in
          subst (λ (x : Space Node). Writing c.args.node.now c.args.kinds.now c.args.kids.now c.args.nodes.now x c.args.leaves.now c.match-kids-from.leaves (c.loop-slot.slot + 1)) (sym w.nodes-is)
          (subst (λ (x : Space ℕ). Writing c.args.node.now c.args.kinds.now c.args.kids.now c.args.nodes.now w.put.new.arena c.args.leaves.now x (c.loop-slot.slot + 1)) (sym w.leaves-is)
          (child_written c.args.node.now c.args.kinds.now c.args.kids.now c.args.nodes.now c.loop-slot.nodes c.args.leaves.now c.loop-slot.leaves c.loop-slot.slot c.loop-slot-test.true c.requires.canonical c.requires.matched c.loop-slot.invariant w.in-Some.child w.rank.result is w.rank.ensures p w.put.new.arena
          w.put.ensures.cells w.put.ensures.free w.put.ensures.order w.put.ensures.fill w.put.ensures.sized))
      | in-None+in-Some-kinds w ↦
          let is = ap (slot_kind c.args.kinds.now) (sym w.from-in-None.ensures) ∙ w.in-Some-kinds.is in
          let p = leaf_spot c.args.node.now c.args.kinds.now c.args.kids.now c.args.nodes.now c.loop-slot.nodes c.args.leaves.now c.loop-slot.leaves c.loop-slot.slot c.loop-slot-test.true c.requires.canonical c.requires.matched c.loop-slot.invariant w.in-Some-kinds.hop w.rank-in-Some-kinds.result is w.rank-in-Some-kinds.ensures c.requires.leaves_out in
          subst (λ (x : Space Node). Writing c.args.node.now c.args.kinds.now c.args.kids.now c.args.nodes.now x c.args.leaves.now c.match-kids-from.leaves (c.loop-slot.slot + 1)) (sym w.nodes-is)
          (subst (λ (x : Space ℕ). Writing c.args.node.now c.args.kinds.now c.args.kids.now c.args.nodes.now c.loop-slot.nodes c.args.leaves.now x (c.loop-slot.slot + 1)) (sym w.leaves-is)
          (leaf_written c.args.node.now c.args.kinds.now c.args.kids.now c.args.nodes.now c.loop-slot.nodes c.args.leaves.now c.loop-slot.leaves c.loop-slot.slot c.loop-slot-test.true c.requires.canonical c.requires.matched c.loop-slot.invariant w.in-Some-kinds.hop w.rank-in-Some-kinds.result is w.rank-in-Some-kinds.ensures p w.put-in-Some-kinds.new.arena
          w.put-in-Some-kinds.ensures.cells w.put-in-Some-kinds.ensures.free w.put-in-Some-kinds.ensures.order w.put-in-Some-kinds.ensures.fill w.put-in-Some-kinds.ensures.sized))
      | in-None+in-None-kinds w ↦
          absurd (not_empty c.args.node.now c.args.kinds.now c.args.kids.now c.args.nodes.now c.loop-slot.nodes c.args.leaves.now c.loop-slot.leaves c.loop-slot.slot c.loop-slot-test.true c.requires.canonical c.requires.matched c.loop-slot.invariant (ap (kid_in c.args.kids.now) (sym c.from.ensures) ∙ w.in-None.is) (ap (slot_kind c.args.kinds.now) (sym w.from-in-None.ensures) ∙ w.in-None-kinds.is))
    ]
