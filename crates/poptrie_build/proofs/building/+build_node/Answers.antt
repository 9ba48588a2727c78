use Rattle.std.proofs.Common.{rules, arith, refl, ◌≡◌, ◌∙◌, ap, sym, subst, ◌+◌, ◌<◌, None, ℕ, set, ◌*◌}
use Rattle.poptrie_build.specs.Strides.{slots, mixed}
use Rattle.buddy_arena.specs.Powers.{up}
use Rattle.buddy_arena.proofs.Powers.{up_above}
use Rattle.poptrie_build.specs.Need.{children}
use Rattle.poptrie_build.proofs.Childless.{going_upto, counted_upto, parted_upto}
use Rattle.poptrie_build.proofs.Directing.{never, keeps_all, keeps_both}
use Rattle.poptrie_build.proofs.Going.{child_none, child_less, node_room, node_written, leaf_there, hop_of, node_of, written_there, written_keeps, takes_same, at_end_stands, going_start, state}
use Rattle.poptrie_build.proofs.Walk.{rank_more}
use Rattle.poptrie_build.proofs.Parted.{parted_start, parted_leaf, parted_node, nodes_parted, leaves_parted, rank_fits}
use Rattle.poptrie_build.proofs.Counting.{Counted, count_start, count_written, count_leaf, count_node, nodes_end, leaves_end, nodes_refused, leaves_refused, child_fits, block_small, descended_slot, six_bits}
use Rattle.buddy_arena.specs.Space.{Space, IsSized}
use Rattle.buddy_arena.proofs.Calls.{bit_there, bit_not_there}
use Rattle.buddy_arena.specs.Places.{Keeps, is_out}
use Rattle.poptrie_build.specs.declared.node.Node.{Node}
use Rattle.poptrie_build.proofs.building.+build_node.Goals.{then-made-slot-eq1+in_ok-node, else-made-slot-eq1}
use Rattle.poptrie_build.proofs.building.+build_node.Goals as goal

pub returns-in_err-base1-clause-fits : goal.returns-in_err-base1-clause-fits
returns-in_err-base1-clause-fits g t c = λ k h fn fl n l. absurd (nodes_refused _ _ k _ _ c.requires.mixed c.survey_slots-made.ensures.nodes h (c.in_err-base1.ensures.refused fn) n)

pub returns-in_err-base0-clause-fits : goal.returns-in_err-base0-clause-fits
returns-in_err-base0-clause-fits g t c = λ k h fn fl n l. absurd (leaves_refused _ _ k _ _ c.requires.mixed c.survey_slots-made.ensures.leaves h (c.in_err-base0.ensures.refused fl) l)

pub put_leaves-requires-clause-few : goal.put_leaves-requires-clause-few
put_leaves-requires-clause-few g t c = omega (arith, c.survey_slots-made.ensures.few, c.survey_slots-made.ensures.many)

pub put_leaves-requires-clause-within : goal.put_leaves-requires-clause-within
put_leaves-requires-clause-within g t c = omega (arith, c.in_ok-base0.ensures.takes.within, up_above c.survey_slots-made.result.leaves)

pub put_leaves-requires-clause-out : goal.put_leaves-requires-clause-out
put_leaves-requires-clause-out g t c = λ i l. c.in_ok-base0.ensures.takes.are i (omega (arith, l, up_above c.survey_slots-made.result.leaves))

pub loop-slot-init : goal.loop-slot-init
loop-slot-init g t c =
    let out : is_out c.put_leaves.new.leaves.free ≡ is_out c.take_places-2.new.arena.free = ap is_out c.put_leaves.ensures.free in
    let keeps = written_keeps _ _ _ _ c.args.leaves.now c.take_places-2.new.arena c.put_leaves.new.leaves _ (up_above c.survey_slots-made.result.leaves) c.take_places-2.ensures.cells c.take_places-2.ensures.still c.in_ok-base0.ensures.takes c.put_leaves.ensures in
    let counted = count_start (g.R.Region.bits c.args.region.now) (g.R.Region.answers c.args.region.now) c.args.nodes.now c.take_places.new.arena c.args.leaves.now c.take_places-2.new.arena _ _ c.survey_slots-made.ensures.nodes c.survey_slots-made.ensures.leaves c.in_ok-base1.ensures.left c.in_ok-base0.ensures.left c.take_places.ensures.fresh c.take_places-2.ensures.fresh c.take_places.ensures.sized c.take_places-2.ensures.sized
    c.take_places.ensures.order c.take_places-2.ensures.order c.take_places.ensures.fill c.take_places-2.ensures.fill
    in (
      going_start _ _ _ _ _ _ _ _ _ _ _ _ _ _ c.survey_slots-made.ensures.nodes c.survey_slots-made.ensures.leaves c.in_ok-base1.ensures.takes (takes_same _ _ _ _ _ _ _ out c.put_leaves.ensures.long c.in_ok-base0.ensures.takes) c.take_places.ensures.still c.take_places.ensures.cells keeps,
      count_written _ _ _ _ _ _ _ _ _ _ _ c.put_leaves.ensures counted,
      keeps_all 0 _ _ _ _ refl (λ i o. o),
      parted_start _ _ _,
    )

pub descend-child-requires-clause-fits : goal.descend-child-requires-clause-fits
descend-child-requires-clause-fits g t c =
    let can = c.survey_slots-made.ensures.canonical in
    let none : None ≡ slots (g.R.Region.bits c.args.region.now) (g.R.Region.answers c.args.region.now) c.loop-slot.slot = node_of (slots (g.R.Region.bits c.args.region.now) (g.R.Region.answers c.args.region.now) c.loop-slot.slot) (sym (can.nodes c.loop-slot.slot c.loop-slot-test.true) ∙ bit_there c.survey_slots-made.result.vector c.loop-slot.slot c.if-made-slot-eq1.true) in
    six_bits (g.R.Region.bits c.args.region.now) c.loop-slot.slot (g.R.Region.answers c.args.region.now) none

pub build_node-requires : goal.build_node-requires
build_node-requires g t c κs within =
    let can = c.survey_slots-made.ensures.canonical in
    let none : None ≡ slots (g.R.Region.bits c.args.region.now) (g.R.Region.answers c.args.region.now) c.loop-slot.slot = node_of (slots (g.R.Region.bits c.args.region.now) (g.R.Region.answers c.args.region.now) c.loop-slot.slot) (sym (can.nodes c.loop-slot.slot c.loop-slot-test.true) ∙ bit_there c.survey_slots-made.result.vector c.loop-slot.slot c.if-made-slot-eq1.true) in
    let down = descended_slot (g.R.Region.bits c.args.region.now) c.loop-slot.slot (g.R.Region.bits c.descend-child.result) (g.R.Region.answers c.args.region.now) (g.R.Region.answers c.descend-child.result) c.descend-child.ensures.bits c.descend-child.ensures.answers in
    let m = child_none (g.R.Region.bits c.args.region.now) (g.R.Region.bits c.descend-child.result) c.loop-slot.slot (g.R.Region.answers c.args.region.now) (g.R.Region.answers c.descend-child.result) down.0 down.1 none in
    let l = child_less (g.R.Region.bits c.args.region.now) (g.R.Region.bits c.descend-child.result) c.loop-slot.slot (g.R.Region.answers c.args.region.now) (g.R.Region.answers c.descend-child.result) down.0 down.1 none in
    let a = c.loop-slot.invariant.1.nodes_sized in
    let b = c.loop-slot.invariant.1.leaves_sized in
    search (rules, l, m, a, b)

pub returns-in_err-node-clause-nodes_fresh : goal.returns-in_err-node-clause-nodes_fresh
returns-in_err-node-clause-nodes_fresh g t c = λ f. c.build_node.ensures.nodes_fresh (c.loop-slot.invariant.1.nodes_fresh f)

pub returns-in_err-node-clause-leaves_fresh : goal.returns-in_err-node-clause-leaves_fresh
returns-in_err-node-clause-leaves_fresh g t c = λ f. c.build_node.ensures.leaves_fresh (c.loop-slot.invariant.1.leaves_fresh f)

pub returns-in_err-node-clause-fits : goal.returns-in_err-node-clause-fits
returns-in_err-node-clause-fits g t c =
    let can = c.survey_slots-made.ensures.canonical in
    let none : None ≡ slots (g.R.Region.bits c.args.region.now) (g.R.Region.answers c.args.region.now) c.loop-slot.slot = node_of (slots (g.R.Region.bits c.args.region.now) (g.R.Region.answers c.args.region.now) c.loop-slot.slot) (sym (can.nodes c.loop-slot.slot c.loop-slot-test.true) ∙ bit_there c.survey_slots-made.result.vector c.loop-slot.slot c.if-made-slot-eq1.true) in
    let down = descended_slot (g.R.Region.bits c.args.region.now) c.loop-slot.slot (g.R.Region.bits c.descend-child.result) (g.R.Region.answers c.args.region.now) (g.R.Region.answers c.descend-child.result) c.descend-child.ensures.bits c.descend-child.ensures.answers in
    λ k h fn fl n l.
    let q = child_fits (g.R.Region.bits c.args.region.now) (g.R.Region.answers c.args.region.now) _ _ _ _ c.loop-slot.slot (g.R.Region.bits c.descend-child.result) (g.R.Region.answers c.descend-child.result) c.loop-slot-test.true c.requires.mixed down.0 down.1 c.loop-slot.invariant.1 k h n l in
    let z = c.in_err-node.ensures.fits q.0 q.1 (c.loop-slot.invariant.1.nodes_fresh fn) (c.loop-slot.invariant.1.leaves_fresh fl) q.2 q.3 in
    never z

pub overflow_add-base1 : goal.overflow_add-base1
overflow_add-base1 g t c =
    let can = c.survey_slots-made.ensures.canonical in
    let none : None ≡ slots (g.R.Region.bits c.args.region.now) (g.R.Region.answers c.args.region.now) c.loop-slot.slot = node_of (slots (g.R.Region.bits c.args.region.now) (g.R.Region.answers c.args.region.now) c.loop-slot.slot) (sym (can.nodes c.loop-slot.slot c.loop-slot-test.true) ∙ bit_there c.survey_slots-made.result.vector c.loop-slot.slot c.if-made-slot-eq1.true) in
    let r = node_room _ _ _ _ _ _ _ _ _ _ _ _ _ c.loop-slot-test.true none can c.rank.ensures c.loop-slot.invariant.0 c.build_node.ensures.nodes in
    let h : c.in_ok-base1.base1 + c.rank.result < 4294967296 = block_small c.in_ok-base1.base1 c.survey_slots-made.result.nodes c.rank.result _ _ _ _ c.in_ok-base1.ensures.takes c.take_places.ensures.sized.cells c.take_places.ensures.sized.small (omega (arith, r.most, c.survey_slots-made.ensures.nodes)) in
    omega (arith, h)

pub overflow_sub-base1 : goal.overflow_sub-base1
overflow_sub-base1 g t c =
    let can = c.survey_slots-made.ensures.canonical in
    let none : None ≡ slots (g.R.Region.bits c.args.region.now) (g.R.Region.answers c.args.region.now) c.loop-slot.slot = node_of (slots (g.R.Region.bits c.args.region.now) (g.R.Region.answers c.args.region.now) c.loop-slot.slot) (sym (can.nodes c.loop-slot.slot c.loop-slot-test.true) ∙ bit_there c.survey_slots-made.result.vector c.loop-slot.slot c.if-made-slot-eq1.true) in
    let r = node_room _ _ _ _ _ _ _ _ _ _ _ _ _ c.loop-slot-test.true none can c.rank.ensures c.loop-slot.invariant.0 c.build_node.ensures.nodes in
    omega (arith, r.some)

pub put-requires-clause-out : goal.put-requires-clause-out
put-requires-clause-out g t c =
    let can = c.survey_slots-made.ensures.canonical in
    let none : None ≡ slots (g.R.Region.bits c.args.region.now) (g.R.Region.answers c.args.region.now) c.loop-slot.slot = node_of (slots (g.R.Region.bits c.args.region.now) (g.R.Region.answers c.args.region.now) c.loop-slot.slot) (sym (can.nodes c.loop-slot.slot c.loop-slot-test.true) ∙ bit_there c.survey_slots-made.result.vector c.loop-slot.slot c.if-made-slot-eq1.true) in
    let r = node_room _ _ _ _ _ _ _ _ _ _ _ _ _ c.loop-slot-test.true none can c.rank.ensures c.loop-slot.invariant.0 c.build_node.ensures.nodes in
    r.is_out

pub put-requires-clause-within : goal.put-requires-clause-within
put-requires-clause-within g t c =
    let can = c.survey_slots-made.ensures.canonical in
    let none : None ≡ slots (g.R.Region.bits c.args.region.now) (g.R.Region.answers c.args.region.now) c.loop-slot.slot = node_of (slots (g.R.Region.bits c.args.region.now) (g.R.Region.answers c.args.region.now) c.loop-slot.slot) (sym (can.nodes c.loop-slot.slot c.loop-slot-test.true) ∙ bit_there c.survey_slots-made.result.vector c.loop-slot.slot c.if-made-slot-eq1.true) in
    let r = node_room _ _ _ _ _ _ _ _ _ _ _ _ _ c.loop-slot-test.true none can c.rank.ensures c.loop-slot.invariant.0 c.build_node.ensures.nodes in
    r.within

pub returns-clause-stands : goal.returns-clause-stands
returns-clause-stands g t c = at_end_stands _ _ _ _ _ _ _ _ _ c.loop-slot.slot c.loop-slot.auto.slot-end c.loop-slot-test.false c.requires.mixed c.survey_slots-made.ensures.canonical c.loop-slot.invariant.0

pub returns-clause-nodes_left : goal.returns-clause-nodes_left
returns-clause-nodes_left g t c = nodes_end _ _ _ _ _ _ c.loop-slot.slot c.loop-slot.auto.slot-end c.loop-slot-test.false c.requires.mixed c.loop-slot.invariant.1

pub returns-clause-leaves_left : goal.returns-clause-leaves_left
returns-clause-leaves_left g t c = leaves_end _ _ _ _ _ _ c.loop-slot.slot c.loop-slot.auto.slot-end c.loop-slot-test.false c.requires.mixed c.loop-slot.invariant.1

pub loop-slot-preserved : goal.loop-slot-preserved
loop-slot-preserved g t c =
    let can = c.survey_slots-made.ensures.canonical in
    elim c.if-made-slot-eq1.branch [
      | then-made-slot-eq1+in_ok-node w ↦
          let none : None ≡ slots (g.R.Region.bits c.args.region.now) (g.R.Region.answers c.args.region.now) c.loop-slot.slot = node_of (slots (g.R.Region.bits c.args.region.now) (g.R.Region.answers c.args.region.now) c.loop-slot.slot) (sym (can.nodes c.loop-slot.slot c.loop-slot-test.true) ∙ bit_there c.survey_slots-made.result.vector c.loop-slot.slot w.if-made-slot-eq1.true) in
          let bit = can.nodes c.loop-slot.slot c.loop-slot-test.true ∙ ap mixed (sym none) in
          let room = node_room _ _ _ _ _ _ _ _ _ _ _ _ _ c.loop-slot-test.true none can w.rank.ensures c.loop-slot.invariant.0 w.build_node.ensures.nodes in
          let down = descended_slot (g.R.Region.bits c.args.region.now) c.loop-slot.slot (g.R.Region.bits w.descend-child.result) (g.R.Region.answers c.args.region.now) (g.R.Region.answers w.descend-child.result) w.descend-child.ensures.bits w.descend-child.ensures.answers in (
            node_written _ _ _ _ _ _ _ _ _ _ _ _ w.rank.result w.in_ok-node.node _ _ c.loop-slot-test.true none can w.rank.ensures c.loop-slot.invariant.0 w.build_node.ensures.nodes w.build_node.ensures.leaves down.0 down.1 w.in_ok-node.ensures.stands
                (ap (λ (s : Space Node). s.cells) w.nodes-is ∙ w.put.ensures.cells) (ap (λ (s : Space Node). is_out s.free) w.nodes-is ∙ ap is_out w.put.ensures.free) (ap (λ (s : Space ℕ). s.cells) w.leaves-is) (ap (λ (s : Space ℕ). is_out s.free) w.leaves-is),
            subst (λ (s : Space ℕ). Counted (g.R.Region.bits c.args.region.now) (g.R.Region.answers c.args.region.now) c.args.nodes.now c.if-made-slot-eq1.nodes c.args.leaves.now s (c.loop-slot.slot + 1)) (sym w.leaves-is)
                (subst (λ (s : Space Node). Counted (g.R.Region.bits c.args.region.now) (g.R.Region.answers c.args.region.now) c.args.nodes.now s c.args.leaves.now w.build_node.new.leaves (c.loop-slot.slot + 1)) (sym w.nodes-is)
                (count_node (g.R.Region.bits c.args.region.now) (g.R.Region.answers c.args.region.now) c.args.nodes.now c.loop-slot.nodes w.put.new.arena c.args.leaves.now c.loop-slot.leaves w.build_node.new.leaves c.loop-slot.slot w.build_node.new.nodes _ _ down.0 down.1 w.in_ok-node.ensures.nodes_left w.in_ok-node.ensures.leaves_left
                w.build_node.ensures.nodes_fresh w.build_node.ensures.leaves_fresh w.build_node.ensures.orders.0 w.build_node.ensures.fills.0 w.build_node.ensures.orders.1 w.build_node.ensures.fills.1 w.put.ensures.free w.put.ensures.order w.put.ensures.fill
                w.put.ensures.sized w.build_node.ensures.leaves_sized c.loop-slot.invariant.1)),
            subst (λ (s : Space ℕ). Keeps 0 c.put_leaves.new.leaves.cells (is_out c.put_leaves.new.leaves.free) s.cells (is_out s.free)) (sym w.leaves-is) (keeps_both 0 _ _ _ _ _ _ c.loop-slot.invariant.2 w.build_node.ensures.leaves),
            parted_node c.survey_slots-made.result.vector c.in_ok-base1.base1 (state c.take_places.new.arena.cells (is_out c.take_places.new.arena.free) c.put_leaves.new.leaves.cells (is_out c.put_leaves.new.leaves.free)) (state c.loop-slot.nodes.cells (is_out c.loop-slot.nodes.free) c.loop-slot.leaves.cells (is_out c.loop-slot.leaves.free)) (state w.build_node.new.nodes.cells (is_out w.build_node.new.nodes.free) w.build_node.new.leaves.cells (is_out w.build_node.new.leaves.free)) (state c.if-made-slot-eq1.nodes.cells (is_out c.if-made-slot-eq1.nodes.free) c.if-made-slot-eq1.leaves.cells (is_out c.if-made-slot-eq1.leaves.free)) c.loop-slot.slot _ (children (slots (g.R.Region.bits c.args.region.now) (g.R.Region.answers c.args.region.now))) (is_out c.args.nodes.now.free) w.in_ok-node.node
                bit (rank_fits c.survey_slots-made.result.vector c.survey_slots-made.result.leafvec (g.R.Region.bits c.args.region.now) (g.R.Region.answers c.args.region.now) c.loop-slot.slot c.loop-slot-test.true can) c.loop-slot.invariant.0.node_block
                (omega (arith, room.within, room.some, rank_more c.survey_slots-made.result.vector c.loop-slot.slot, bit, w.rank.ensures)) c.loop-slot.invariant.0.mid_nodes c.loop-slot.invariant.0.mid_leaves w.build_node.ensures.nodes w.build_node.ensures.leaves.still
                (ap (λ (s : Space Node). s.cells) w.nodes-is ∙ (w.put.ensures.cells ∙ ap (λ n. set w.build_node.new.nodes.cells n w.in_ok-node.node) (omega (arith, room.some, rank_more c.survey_slots-made.result.vector c.loop-slot.slot, bit, w.rank.ensures))))
                (ap (λ (s : Space Node). is_out s.free) w.nodes-is ∙ ap is_out w.put.ensures.free) (ap (λ (s : Space ℕ). is_out s.free) w.leaves-is) c.loop-slot.invariant.3 w.in_ok-node.ensures.nodes_apart w.in_ok-node.ensures.leaves_apart,
          )
      | else-made-slot-eq1 w ↦
          let bit = bit_not_there c.survey_slots-made.result.vector c.loop-slot.slot w.if-made-slot-eq1.false in
          let some = hop_of (slots (g.R.Region.bits c.args.region.now) (g.R.Region.answers c.args.region.now) c.loop-slot.slot) (sym (can.nodes c.loop-slot.slot c.loop-slot-test.true) ∙ bit) in
          let there = written_there c.survey_slots-made.result.leafvec c.in_ok-base0.base0 (g.R.Region.bits c.args.region.now) c.survey_slots-made.result.leaves (g.R.Region.answers c.args.region.now) c.survey_slots-made.new.hops c.survey_slots-made.result.vector c.take_places-2.new.arena c.put_leaves.new.leaves can c.survey_slots-made.ensures.leaves c.put_leaves.ensures c.survey_slots-made.ensures.hops in (
            leaf_there _ _ _ _ _ _ _ _ _ _ _ some.0 c.loop-slot-test.true some.1 can there c.loop-slot.invariant.2 c.loop-slot.invariant.0 (ap (λ (s : Space Node). s.cells) w.nodes-is) (ap (λ (s : Space Node). is_out s.free) w.nodes-is)
                (ap (λ (s : Space ℕ). s.cells) w.leaves-is) (ap (λ (s : Space ℕ). is_out s.free) w.leaves-is),
            count_leaf _ _ _ _ _ _ _ _ _ some.0 some.1 w.nodes-is (ap (λ (s : Space ℕ). s.free) w.leaves-is) (ap (λ (s : Space ℕ). s.order) w.leaves-is) (ap (λ (s : Space ℕ). s.fill) w.leaves-is)
                (subst (λ (s : Space ℕ). IsSized s) (sym w.leaves-is) c.loop-slot.invariant.1.leaves_sized) c.loop-slot.invariant.1,
            subst (λ (s : Space ℕ). Keeps 0 c.put_leaves.new.leaves.cells (is_out c.put_leaves.new.leaves.free) s.cells (is_out s.free)) (sym w.leaves-is) c.loop-slot.invariant.2,
            parted_leaf _ _ _ _ _ c.loop-slot.slot bit (ap (λ (s : Space Node). s.cells) w.nodes-is) (ap (λ (s : Space Node). is_out s.free) w.nodes-is) (ap (λ (s : Space ℕ). is_out s.free) w.leaves-is) c.loop-slot.invariant.3,
          )
    ]

pub returns-clause-nodes_apart : goal.returns-clause-nodes_apart
returns-clause-nodes_apart g t c =
    λ k. nodes_parted _ _ _ _ _ c.loop-slot.slot _ _ _ _ c.loop-slot.auto.slot-end c.loop-slot-test.false c.survey_slots-made.ensures.canonical c.loop-slot.invariant.0 c.loop-slot.invariant.3 (c.in_ok-base1.ensures.aligned.0, c.in_ok-base1.ensures.aligned.1 ∙ ap (λ n. c.in_ok-base1.ensures.aligned.0 * up n) c.survey_slots-made.ensures.nodes) k

pub returns-clause-leaves_apart : goal.returns-clause-leaves_apart
returns-clause-leaves_apart g t c =
    λ k. leaves_parted _ _ _ _ _ c.loop-slot.slot _ _ _ _ c.loop-slot.auto.slot-end c.loop-slot-test.false c.survey_slots-made.ensures.canonical c.loop-slot.invariant.0 c.loop-slot.invariant.3 (c.in_ok-base0.ensures.aligned.0, c.in_ok-base0.ensures.aligned.1 ∙ ap (λ n. c.in_ok-base0.ensures.aligned.0 * up n) c.survey_slots-made.ensures.leaves) k

-- where no slot has a node
pub returns-then-made-eq0-clause-stands : goal.returns-then-made-eq0-clause-stands
returns-then-made-eq0-clause-stands g t c =
    let out : is_out c.put_leaves.new.leaves.free ≡ is_out c.take_places-2.new.arena.free = ap is_out c.put_leaves.ensures.free in
    let keeps = written_keeps _ _ _ _ c.args.leaves.now c.take_places-2.new.arena c.put_leaves.new.leaves _ (up_above c.survey_slots-made.result.leaves) c.take_places-2.ensures.cells c.take_places-2.ensures.still c.in_ok-base0.ensures.takes c.put_leaves.ensures in
    let there = written_there c.survey_slots-made.result.leafvec c.in_ok-base0.base0 (g.R.Region.bits c.args.region.now) c.survey_slots-made.result.leaves (g.R.Region.answers c.args.region.now) c.survey_slots-made.new.hops c.survey_slots-made.result.vector c.take_places-2.new.arena c.put_leaves.new.leaves c.survey_slots-made.ensures.canonical c.survey_slots-made.ensures.leaves c.put_leaves.ensures c.survey_slots-made.ensures.hops in
    let none : children (slots (g.R.Region.bits c.args.region.now) (g.R.Region.answers c.args.region.now)) ≡ 0 = sym c.survey_slots-made.ensures.nodes ∙ c.if-made-eq0.true in
    let going = going_upto c.survey_slots-made.result.vector c.survey_slots-made.result.leafvec c.in_ok-base0.base0 c.in_ok-base1.base1 (g.R.Region.bits c.args.region.now) (g.R.Region.answers c.args.region.now) c.args.nodes.now c.take_places.new.arena c.args.leaves.now c.put_leaves.new.leaves c.survey_slots-made.ensures.canonical there none 64 (omega arith)
    (going_start _ _ _ _ _ _ _ _ _ _ _ _ _ _ c.survey_slots-made.ensures.nodes c.survey_slots-made.ensures.leaves c.in_ok-base1.ensures.takes (takes_same _ _ _ _ _ _ _ out c.put_leaves.ensures.long c.in_ok-base0.ensures.takes) c.take_places.ensures.still c.take_places.ensures.cells keeps)
    in
    at_end_stands _ _ _ _ _ _ _ _ _ 64 (omega arith) (omega arith) c.requires.mixed c.survey_slots-made.ensures.canonical going

pub returns-then-made-eq0-clause-nodes_left : goal.returns-then-made-eq0-clause-nodes_left
returns-then-made-eq0-clause-nodes_left g t c =
    let out : is_out c.put_leaves.new.leaves.free ≡ is_out c.take_places-2.new.arena.free = ap is_out c.put_leaves.ensures.free in
    let keeps = written_keeps _ _ _ _ c.args.leaves.now c.take_places-2.new.arena c.put_leaves.new.leaves _ (up_above c.survey_slots-made.result.leaves) c.take_places-2.ensures.cells c.take_places-2.ensures.still c.in_ok-base0.ensures.takes c.put_leaves.ensures in
    let there = written_there c.survey_slots-made.result.leafvec c.in_ok-base0.base0 (g.R.Region.bits c.args.region.now) c.survey_slots-made.result.leaves (g.R.Region.answers c.args.region.now) c.survey_slots-made.new.hops c.survey_slots-made.result.vector c.take_places-2.new.arena c.put_leaves.new.leaves c.survey_slots-made.ensures.canonical c.survey_slots-made.ensures.leaves c.put_leaves.ensures c.survey_slots-made.ensures.hops in
    let none : children (slots (g.R.Region.bits c.args.region.now) (g.R.Region.answers c.args.region.now)) ≡ 0 = sym c.survey_slots-made.ensures.nodes ∙ c.if-made-eq0.true in
    let counted = counted_upto c.survey_slots-made.result.vector c.survey_slots-made.result.leafvec c.in_ok-base0.base0 c.in_ok-base1.base1 (g.R.Region.bits c.args.region.now) (g.R.Region.answers c.args.region.now) c.args.nodes.now c.take_places.new.arena c.args.leaves.now c.put_leaves.new.leaves c.survey_slots-made.ensures.canonical there none 64 (omega arith) c.put_leaves.ensures.sized
    (count_written (g.R.Region.bits c.args.region.now) (g.R.Region.answers c.args.region.now) c.args.nodes.now c.take_places.new.arena c.args.leaves.now c.take_places-2.new.arena c.put_leaves.new.leaves 0 _ _ _ c.put_leaves.ensures
    (count_start (g.R.Region.bits c.args.region.now) (g.R.Region.answers c.args.region.now) c.args.nodes.now c.take_places.new.arena c.args.leaves.now c.take_places-2.new.arena _ _ c.survey_slots-made.ensures.nodes c.survey_slots-made.ensures.leaves c.in_ok-base1.ensures.left c.in_ok-base0.ensures.left c.take_places.ensures.fresh c.take_places-2.ensures.fresh c.take_places.ensures.sized c.take_places-2.ensures.sized
    c.take_places.ensures.order c.take_places-2.ensures.order c.take_places.ensures.fill c.take_places-2.ensures.fill))
    in
    nodes_end _ _ _ _ _ _ 64 (omega arith) (omega arith) c.requires.mixed counted

pub returns-then-made-eq0-clause-leaves_left : goal.returns-then-made-eq0-clause-leaves_left
returns-then-made-eq0-clause-leaves_left g t c =
    let out : is_out c.put_leaves.new.leaves.free ≡ is_out c.take_places-2.new.arena.free = ap is_out c.put_leaves.ensures.free in
    let keeps = written_keeps _ _ _ _ c.args.leaves.now c.take_places-2.new.arena c.put_leaves.new.leaves _ (up_above c.survey_slots-made.result.leaves) c.take_places-2.ensures.cells c.take_places-2.ensures.still c.in_ok-base0.ensures.takes c.put_leaves.ensures in
    let there = written_there c.survey_slots-made.result.leafvec c.in_ok-base0.base0 (g.R.Region.bits c.args.region.now) c.survey_slots-made.result.leaves (g.R.Region.answers c.args.region.now) c.survey_slots-made.new.hops c.survey_slots-made.result.vector c.take_places-2.new.arena c.put_leaves.new.leaves c.survey_slots-made.ensures.canonical c.survey_slots-made.ensures.leaves c.put_leaves.ensures c.survey_slots-made.ensures.hops in
    let none : children (slots (g.R.Region.bits c.args.region.now) (g.R.Region.answers c.args.region.now)) ≡ 0 = sym c.survey_slots-made.ensures.nodes ∙ c.if-made-eq0.true in
    let counted = counted_upto c.survey_slots-made.result.vector c.survey_slots-made.result.leafvec c.in_ok-base0.base0 c.in_ok-base1.base1 (g.R.Region.bits c.args.region.now) (g.R.Region.answers c.args.region.now) c.args.nodes.now c.take_places.new.arena c.args.leaves.now c.put_leaves.new.leaves c.survey_slots-made.ensures.canonical there none 64 (omega arith) c.put_leaves.ensures.sized
    (count_written (g.R.Region.bits c.args.region.now) (g.R.Region.answers c.args.region.now) c.args.nodes.now c.take_places.new.arena c.args.leaves.now c.take_places-2.new.arena c.put_leaves.new.leaves 0 _ _ _ c.put_leaves.ensures
    (count_start (g.R.Region.bits c.args.region.now) (g.R.Region.answers c.args.region.now) c.args.nodes.now c.take_places.new.arena c.args.leaves.now c.take_places-2.new.arena _ _ c.survey_slots-made.ensures.nodes c.survey_slots-made.ensures.leaves c.in_ok-base1.ensures.left c.in_ok-base0.ensures.left c.take_places.ensures.fresh c.take_places-2.ensures.fresh c.take_places.ensures.sized c.take_places-2.ensures.sized
    c.take_places.ensures.order c.take_places-2.ensures.order c.take_places.ensures.fill c.take_places-2.ensures.fill))
    in
    leaves_end _ _ _ _ _ _ 64 (omega arith) (omega arith) c.requires.mixed counted

pub returns-then-made-eq0-clause-nodes_apart : goal.returns-then-made-eq0-clause-nodes_apart
returns-then-made-eq0-clause-nodes_apart g t c =
    let out : is_out c.put_leaves.new.leaves.free ≡ is_out c.take_places-2.new.arena.free = ap is_out c.put_leaves.ensures.free in
    let keeps = written_keeps _ _ _ _ c.args.leaves.now c.take_places-2.new.arena c.put_leaves.new.leaves _ (up_above c.survey_slots-made.result.leaves) c.take_places-2.ensures.cells c.take_places-2.ensures.still c.in_ok-base0.ensures.takes c.put_leaves.ensures in
    let there = written_there c.survey_slots-made.result.leafvec c.in_ok-base0.base0 (g.R.Region.bits c.args.region.now) c.survey_slots-made.result.leaves (g.R.Region.answers c.args.region.now) c.survey_slots-made.new.hops c.survey_slots-made.result.vector c.take_places-2.new.arena c.put_leaves.new.leaves c.survey_slots-made.ensures.canonical c.survey_slots-made.ensures.leaves c.put_leaves.ensures c.survey_slots-made.ensures.hops in
    let none : children (slots (g.R.Region.bits c.args.region.now) (g.R.Region.answers c.args.region.now)) ≡ 0 = sym c.survey_slots-made.ensures.nodes ∙ c.if-made-eq0.true in
    let going = going_upto c.survey_slots-made.result.vector c.survey_slots-made.result.leafvec c.in_ok-base0.base0 c.in_ok-base1.base1 (g.R.Region.bits c.args.region.now) (g.R.Region.answers c.args.region.now) c.args.nodes.now c.take_places.new.arena c.args.leaves.now c.put_leaves.new.leaves c.survey_slots-made.ensures.canonical there none 64 (omega arith)
    (going_start _ _ _ _ _ _ _ _ _ _ _ _ _ _ c.survey_slots-made.ensures.nodes c.survey_slots-made.ensures.leaves c.in_ok-base1.ensures.takes (takes_same _ _ _ _ _ _ _ out c.put_leaves.ensures.long c.in_ok-base0.ensures.takes) c.take_places.ensures.still c.take_places.ensures.cells keeps)
    in
    let parted = parted_upto c.survey_slots-made.result.vector c.survey_slots-made.result.leafvec c.in_ok-base0.base0 c.in_ok-base1.base1 (g.R.Region.bits c.args.region.now) (g.R.Region.answers c.args.region.now) c.args.nodes.now c.take_places.new.arena c.args.leaves.now c.put_leaves.new.leaves c.survey_slots-made.ensures.canonical there none 64 (omega arith) in
    λ k. nodes_parted _ _ _ _ _ 64 _ _ _ _ (omega arith) (omega arith) c.survey_slots-made.ensures.canonical going parted (c.in_ok-base1.ensures.aligned.0, c.in_ok-base1.ensures.aligned.1 ∙ ap (λ n. c.in_ok-base1.ensures.aligned.0 * up n) c.survey_slots-made.ensures.nodes) k

pub returns-then-made-eq0-clause-leaves_apart : goal.returns-then-made-eq0-clause-leaves_apart
returns-then-made-eq0-clause-leaves_apart g t c =
    let out : is_out c.put_leaves.new.leaves.free ≡ is_out c.take_places-2.new.arena.free = ap is_out c.put_leaves.ensures.free in
    let keeps = written_keeps _ _ _ _ c.args.leaves.now c.take_places-2.new.arena c.put_leaves.new.leaves _ (up_above c.survey_slots-made.result.leaves) c.take_places-2.ensures.cells c.take_places-2.ensures.still c.in_ok-base0.ensures.takes c.put_leaves.ensures in
    let there = written_there c.survey_slots-made.result.leafvec c.in_ok-base0.base0 (g.R.Region.bits c.args.region.now) c.survey_slots-made.result.leaves (g.R.Region.answers c.args.region.now) c.survey_slots-made.new.hops c.survey_slots-made.result.vector c.take_places-2.new.arena c.put_leaves.new.leaves c.survey_slots-made.ensures.canonical c.survey_slots-made.ensures.leaves c.put_leaves.ensures c.survey_slots-made.ensures.hops in
    let none : children (slots (g.R.Region.bits c.args.region.now) (g.R.Region.answers c.args.region.now)) ≡ 0 = sym c.survey_slots-made.ensures.nodes ∙ c.if-made-eq0.true in
    let going = going_upto c.survey_slots-made.result.vector c.survey_slots-made.result.leafvec c.in_ok-base0.base0 c.in_ok-base1.base1 (g.R.Region.bits c.args.region.now) (g.R.Region.answers c.args.region.now) c.args.nodes.now c.take_places.new.arena c.args.leaves.now c.put_leaves.new.leaves c.survey_slots-made.ensures.canonical there none 64 (omega arith)
    (going_start _ _ _ _ _ _ _ _ _ _ _ _ _ _ c.survey_slots-made.ensures.nodes c.survey_slots-made.ensures.leaves c.in_ok-base1.ensures.takes (takes_same _ _ _ _ _ _ _ out c.put_leaves.ensures.long c.in_ok-base0.ensures.takes) c.take_places.ensures.still c.take_places.ensures.cells keeps)
    in
    let parted = parted_upto c.survey_slots-made.result.vector c.survey_slots-made.result.leafvec c.in_ok-base0.base0 c.in_ok-base1.base1 (g.R.Region.bits c.args.region.now) (g.R.Region.answers c.args.region.now) c.args.nodes.now c.take_places.new.arena c.args.leaves.now c.put_leaves.new.leaves c.survey_slots-made.ensures.canonical there none 64 (omega arith) in
    λ k. leaves_parted _ _ _ _ _ 64 _ _ _ _ (omega arith) (omega arith) c.survey_slots-made.ensures.canonical going parted (c.in_ok-base0.ensures.aligned.0, c.in_ok-base0.ensures.aligned.1 ∙ ap (λ n. c.in_ok-base0.ensures.aligned.0 * up n) c.survey_slots-made.ensures.leaves) k

pub returns-then-made-eq0-clause-leaves : goal.returns-then-made-eq0-clause-leaves
returns-then-made-eq0-clause-leaves g t c = written_keeps _ _ _ _ c.args.leaves.now c.take_places-2.new.arena c.put_leaves.new.leaves _ (up_above c.survey_slots-made.result.leaves) c.take_places-2.ensures.cells c.take_places-2.ensures.still c.in_ok-base0.ensures.takes c.put_leaves.ensures
