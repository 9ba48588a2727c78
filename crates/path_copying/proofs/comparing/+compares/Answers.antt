use borrow.Author.Tests.{clash}
use Rattle.std.proofs.Common.{rules, ◌≡◌, ◌∙◌, ◌+◌, ◌-◌, ◌*◌, ◌<◌, ℕ, Some, None, sym, ap, subst, arith, refl}
use Rattle.std.specs.Prelude.{◌↔◌, IsTrue, List, Bool}
use Rattle.poptrie_build.specs.Strides.{slots, slot}
use Rattle.poptrie_build.specs.Making.{slot_kind}
use Rattle.poptrie_build.specs.Build.{StandsIn}
use Rattle.poptrie_build.proofs.Counting.{kinds_agree, six_bits, descended_slot}
use Rattle.poptrie_build.proofs.Directing.{small_len}
use Rattle.path_copying.specs.Alike.{SameAnswers}
use Rattle.path_copying.specs.Ways.{bits_left, AgreeBeside}
use Rattle.path_copying.proofs.Agree.{slot_alike}
use Rattle.path_copying.proofs.Beside.{node_below, one_node}
use Rattle.path_copying.proofs.Same.{leaf_at, node_at_slot, differ_none, differ_some, differ_hop, same_hops, below_start, below_step, whole_alike, leaf_read_is, child_read}
use Rattle.path_copying.proofs.Set_bits.{zero_bit, one_bit}
use Rattle.path_copying.proofs.comparing.+compares.Goals as goal
use Rattle.path_copying.proofs.comparing.+compares.Goals.{is_same-in-Some+else-not-is_leaf+else-read-hop, is_same-in-None+else-is_leaf+else-not-is_child_same}

pub is_same-loop-slot-init : goal.is_same-loop-slot-init
is_same-loop-slot-init g t c = λ k N L h s. below_start (g.R.Region.bits c.args.region.now) (g.R.Region.answers c.args.region.now) h

pub is_same-returns-then-not-is_leaf : goal.is_same-returns-then-not-is_leaf
is_same-returns-then-not-is_leaf g t c = record {
  alike = λ k N L h s.
      let some : slots (g.R.Region.bits c.args.region.now) (g.R.Region.answers c.args.region.now) c.loop-slot.slot ≡ Some c.in-Some.hop = sym (kinds_agree (g.R.Region.bits c.args.region.now) (g.R.Region.answers c.args.region.now) c.ask.new.slots c.ask.ensures c.loop-slot.slot c.loop-slot-test.true) ∙ (ap (slot_kind c.ask.new.slots) (sym c.from.ensures) ∙ c.in-Some.is) in
      let at = node_at_slot c.args.nodes.now.cells N c.args.leaves.now.cells L c.args.node.now (g.R.Region.bits c.args.region.now) h c.loop-slot.slot c.loop-slot-test.true k (one_bit c.args.node.now.vector c.loop-slot.slot c.if-not-is_leaf.true) s in
      ((λ e. absurd (clash e)), (λ al. absurd (differ_none (g.R.Region.bits c.args.region.now) c.loop-slot.slot c.in-Some.hop (g.R.Region.answers c.args.region.now) h some at.is al)));
}

pub is_same-overflow_add-node : goal.is_same-overflow_add-node
is_same-overflow_add-node g t c =
    let at = leaf_at c.args.nodes.now.cells c.requires.node.1 c.args.leaves.now.cells c.requires.node.2 c.args.node.now (g.R.Region.bits c.args.region.now) c.requires.node.3 c.loop-slot.slot c.loop-slot-test.true c.requires.node.0 (zero_bit c.args.node.now.vector c.loop-slot.slot c.if-not-is_leaf.false) c.requires.node.4 in
    let m = small_len c.args.leaves.now c.requires.leaves_sized in
    let b = at.leaf.0 in
    omega (arith, b, m, c.rank.ensures, at.some)

pub is_same-overflow_sub-node : goal.is_same-overflow_sub-node
is_same-overflow_sub-node g t c =
    let at = leaf_at c.args.nodes.now.cells c.requires.node.1 c.args.leaves.now.cells c.requires.node.2 c.args.node.now (g.R.Region.bits c.args.region.now) c.requires.node.3 c.loop-slot.slot c.loop-slot-test.true c.requires.node.0 (zero_bit c.args.node.now.vector c.loop-slot.slot c.if-not-is_leaf.false) c.requires.node.4 in
    omega (arith, c.rank.ensures, at.some)

pub is_same-read-requires : goal.is_same-read-requires
is_same-read-requires g t c =
    let at = leaf_at c.args.nodes.now.cells c.requires.node.1 c.args.leaves.now.cells c.requires.node.2 c.args.node.now (g.R.Region.bits c.args.region.now) c.requires.node.3 c.loop-slot.slot c.loop-slot-test.true c.requires.node.0 (zero_bit c.args.node.now.vector c.loop-slot.slot c.if-not-is_leaf.false) c.requires.node.4 in
    let b = at.leaf.0 in
    omega (arith, b, c.rank.ensures)

pub is_same-returns-then-read-hop : goal.is_same-returns-then-read-hop
is_same-returns-then-read-hop g t c = record {
  alike = λ k N L h s.
      let some : slots (g.R.Region.bits c.args.region.now) (g.R.Region.answers c.args.region.now) c.loop-slot.slot ≡ Some c.in-Some.hop = sym (kinds_agree (g.R.Region.bits c.args.region.now) (g.R.Region.answers c.args.region.now) c.ask.new.slots c.ask.ensures c.loop-slot.slot c.loop-slot-test.true) ∙ (ap (slot_kind c.ask.new.slots) (sym c.from.ensures) ∙ c.in-Some.is) in
      let at = leaf_at c.args.nodes.now.cells N c.args.leaves.now.cells L c.args.node.now (g.R.Region.bits c.args.region.now) h c.loop-slot.slot c.loop-slot-test.true k (zero_bit c.args.node.now.vector c.loop-slot.slot c.if-not-is_leaf.false) s in
      let read = leaf_read_is c.args.nodes.now.cells c.args.leaves.now.cells c.args.node.now (g.R.Region.bits c.args.region.now) h c.loop-slot.slot c.read.result c.rank.result c.args.leaves.now.fill at c.rank.ensures c.read.ensures in
      ((λ e. absurd (clash e)), (λ al. absurd (differ_hop (g.R.Region.bits c.args.region.now) c.loop-slot.slot c.in-Some.hop at.hop (g.R.Region.answers c.args.region.now) h some at.is (λ e. c.if-read-hop.true (read ∙ e)) al)));
}

pub is_same-returns-then-is_leaf : goal.is_same-returns-then-is_leaf
is_same-returns-then-is_leaf g t c = record {
  alike = λ k N L h s.
      let none : slots (g.R.Region.bits c.args.region.now) (g.R.Region.answers c.args.region.now) c.loop-slot.slot ≡ None = sym (kinds_agree (g.R.Region.bits c.args.region.now) (g.R.Region.answers c.args.region.now) c.ask.new.slots c.ask.ensures c.loop-slot.slot c.loop-slot-test.true) ∙ (ap (slot_kind c.ask.new.slots) (sym c.from.ensures) ∙ c.in-None.is) in
      let at = leaf_at c.args.nodes.now.cells N c.args.leaves.now.cells L c.args.node.now (g.R.Region.bits c.args.region.now) h c.loop-slot.slot c.loop-slot-test.true k (zero_bit c.args.node.now.vector c.loop-slot.slot c.if-is_leaf.true) s in
      ((λ e. absurd (clash e)), (λ al. absurd (differ_some (g.R.Region.bits c.args.region.now) c.loop-slot.slot at.hop (g.R.Region.answers c.args.region.now) h none at.is al)));
}

pub is_same-overflow_add-node-in-None : goal.is_same-overflow_add-node-in-None
is_same-overflow_add-node-in-None g t c =
    let at = node_at_slot c.args.nodes.now.cells c.requires.node.1 c.args.leaves.now.cells c.requires.node.2 c.args.node.now (g.R.Region.bits c.args.region.now) c.requires.node.3 c.loop-slot.slot c.loop-slot-test.true c.requires.node.0 (one_bit c.args.node.now.vector c.loop-slot.slot c.if-is_leaf.false) c.requires.node.4 in
    let m = small_len c.args.nodes.now c.requires.nodes_sized in
    omega (arith, at.within, m, c.rank-in-None.ensures, at.some)

pub is_same-overflow_sub-node-in-None : goal.is_same-overflow_sub-node-in-None
is_same-overflow_sub-node-in-None g t c =
    let at = node_at_slot c.args.nodes.now.cells c.requires.node.1 c.args.leaves.now.cells c.requires.node.2 c.args.node.now (g.R.Region.bits c.args.region.now) c.requires.node.3 c.loop-slot.slot c.loop-slot-test.true c.requires.node.0 (one_bit c.args.node.now.vector c.loop-slot.slot c.if-is_leaf.false) c.requires.node.4 in
    omega (arith, c.rank-in-None.ensures, at.some)

pub is_same-read-child-requires : goal.is_same-read-child-requires
is_same-read-child-requires g t c =
    let at = node_at_slot c.args.nodes.now.cells c.requires.node.1 c.args.leaves.now.cells c.requires.node.2 c.args.node.now (g.R.Region.bits c.args.region.now) c.requires.node.3 c.loop-slot.slot c.loop-slot-test.true c.requires.node.0 (one_bit c.args.node.now.vector c.loop-slot.slot c.if-is_leaf.false) c.requires.node.4 in
    omega (arith, at.within, c.rank-in-None.ensures)

pub is_same-loop-slot-preserved : goal.is_same-loop-slot-preserved
is_same-loop-slot-preserved g t c = λ k N L h s.
    below_step (g.R.Region.bits c.args.region.now) (g.R.Region.answers c.args.region.now) h c.loop-slot.slot (c.loop-slot.invariant k N L h s)
    (elim c.match-kinds-from.branch [
      | is_same-in-Some+else-not-is_leaf+else-read-hop w ↦
          let some : slots (g.R.Region.bits c.args.region.now) (g.R.Region.answers c.args.region.now) c.loop-slot.slot ≡ Some w.in-Some.hop = sym (kinds_agree (g.R.Region.bits c.args.region.now) (g.R.Region.answers c.args.region.now) c.ask.new.slots c.ask.ensures c.loop-slot.slot c.loop-slot-test.true) ∙ (ap (slot_kind c.ask.new.slots) (sym c.from.ensures) ∙ w.in-Some.is) in
          let at = leaf_at c.args.nodes.now.cells N c.args.leaves.now.cells L c.args.node.now (g.R.Region.bits c.args.region.now) h c.loop-slot.slot c.loop-slot-test.true k (zero_bit c.args.node.now.vector c.loop-slot.slot w.if-not-is_leaf.false) s in
          let read = leaf_read_is c.args.nodes.now.cells c.args.leaves.now.cells c.args.node.now (g.R.Region.bits c.args.region.now) h c.loop-slot.slot w.read.result w.rank.result c.args.leaves.now.fill at w.rank.ensures w.read.ensures in
          same_hops (g.R.Region.bits c.args.region.now) c.loop-slot.slot w.in-Some.hop (g.R.Region.answers c.args.region.now) h some (at.is ∙ ap Some (sym read ∙ w.if-read-hop.false))
      | is_same-in-None+else-is_leaf+else-not-is_child_same w ↦
          let at = node_at_slot c.args.nodes.now.cells N c.args.leaves.now.cells L c.args.node.now (g.R.Region.bits c.args.region.now) h c.loop-slot.slot c.loop-slot-test.true k (one_bit c.args.node.now.vector c.loop-slot.slot w.if-is_leaf.false) s in
          let stands = child_read c.args.nodes.now.cells N c.args.leaves.now.cells L c.args.node.now (g.R.Region.bits c.args.region.now) h c.loop-slot.slot w.rank-in-None.result w.read-child.result c.args.nodes.now.fill at w.rank-in-None.ensures w.read-child.ensures in
          (w.is_child_same.ensures.alike at.strides N L (slot (g.R.Region.bits c.args.region.now) h c.loop-slot.slot) stands).0 w.if-not-is_child_same.false
    ])

pub is_same-returns : goal.is_same-returns
is_same-returns g t c = record {
  alike = λ k N L h s. ((λ _. whole_alike (g.R.Region.bits c.args.region.now) (g.R.Region.answers c.args.region.now) h c.loop-slot.slot (omega (arith, c.loop-slot-test.false)) (c.loop-slot.invariant k N L h s)), (λ _. refl));
}

pub is_same-is_child_same-requires : goal.is_same-is_child_same-requires
is_same-is_child_same-requires g t c κs within =
    let none : slots (g.R.Region.bits c.args.region.now) (g.R.Region.answers c.args.region.now) c.loop-slot.slot ≡ None = sym (kinds_agree (g.R.Region.bits c.args.region.now) (g.R.Region.answers c.args.region.now) c.ask.new.slots c.ask.ensures c.loop-slot.slot c.loop-slot-test.true) ∙ (ap (slot_kind c.ask.new.slots) (sym c.from.ensures) ∙ c.in-None.is) in
    let at = node_at_slot c.args.nodes.now.cells c.requires.node.1 c.args.leaves.now.cells c.requires.node.2 c.args.node.now (g.R.Region.bits c.args.region.now) c.requires.node.3 c.loop-slot.slot c.loop-slot-test.true c.requires.node.0 (one_bit c.args.node.now.vector c.loop-slot.slot c.if-is_leaf.false) c.requires.node.4 in
    let stands = child_read c.args.nodes.now.cells c.requires.node.1 c.args.leaves.now.cells c.requires.node.2 c.args.node.now (g.R.Region.bits c.args.region.now) c.requires.node.3 c.loop-slot.slot c.rank-in-None.result c.read-child.result c.args.nodes.now.fill at c.rank-in-None.ensures c.read-child.ensures in
    let less : 2 * g.R.Region.bits c.args.region.now < 2 * g.R.Region.bits c.args.region.now + 1 = omega arith in
    (search (rules, less), (search rules, (c.loop-slot-test.true, (six_bits (g.R.Region.bits c.args.region.now) c.loop-slot.slot (g.R.Region.answers c.args.region.now) (sym none), (c.requires.way, (c.requires.nodes_sized, (c.requires.leaves_sized, (at.strides, c.requires.node.1, c.requires.node.2, c.requires.node.3, stands, c.requires.node.5))))))))

pub is_same-returns-then-not-is_child_same : goal.is_same-returns-then-not-is_child_same
is_same-returns-then-not-is_child_same g t c = record {
  alike = λ k N L h s.
      let at = node_at_slot c.args.nodes.now.cells N c.args.leaves.now.cells L c.args.node.now (g.R.Region.bits c.args.region.now) h c.loop-slot.slot c.loop-slot-test.true k (one_bit c.args.node.now.vector c.loop-slot.slot c.if-is_leaf.false) s in
      let stands = child_read c.args.nodes.now.cells N c.args.leaves.now.cells L c.args.node.now (g.R.Region.bits c.args.region.now) h c.loop-slot.slot c.rank-in-None.result c.read-child.result c.args.nodes.now.fill at c.rank-in-None.ensures c.read-child.ensures in
      let tells = c.is_child_same.ensures.alike at.strides N L (slot (g.R.Region.bits c.args.region.now) h c.loop-slot.slot) stands in
      ((λ e. absurd (clash e)), (λ al. let y = tells.1 (slot_alike (g.R.Region.bits c.args.region.now) c.loop-slot.slot (g.R.Region.answers c.args.region.now) h al) in let z = c.if-not-is_child_same.true in cc));
}

-- ---- a child
pub is_child_same-descend-requires-clause-fits : goal.is_child_same-descend-requires-clause-fits
is_child_same-descend-requires-clause-fits g t c = c.requires.fits

pub is_child_same-returns-then-not-meets : goal.is_child_same-returns-then-not-meets
is_child_same-returns-then-not-meets g t c = record {
  alike = λ k N L h s.
      let was = slot (g.R.Region.bits c.args.region.now) c.requires.child.3 c.args.slot in
      let same : SameAnswers (g.R.Region.bits c.args.region.now - 6) (slot (g.R.Region.bits c.args.region.now) (g.R.Region.answers c.args.region.now) c.args.slot) was = subst (λ (n : ℕ). SameAnswers (n - 6) (slot n (g.R.Region.answers c.args.region.now) c.args.slot) (slot n c.requires.child.3 c.args.slot)) c.requires.way (c.meets.ensures.beside c.if-not-meets.true (g.R.Region.answers c.args.region.now) c.requires.child.3 (subst (λ (n : ℕ). AgreeBeside (bits_left c.args.way.now) n (g.R.Region.answers c.args.region.now) c.requires.child.3) (sym c.requires.way) c.requires.child.5)) in
      let one = one_node c.requires.child.0 k c.args.nodes.now.cells c.requires.child.1 N c.args.leaves.now.cells c.requires.child.2 L c.args.child.now (g.R.Region.bits c.args.region.now - 6) was h c.requires.child.4 s in
      ((λ e a l. same a l ∙ one a l), (λ al. refl));
}

pub is_child_same-below-requires : goal.is_child_same-below-requires
is_child_same-below-requires g t c = omega (arith, c.requires.fits, c.requires.way)

pub is_child_same-is_same-requires : goal.is_child_same-is_same-requires
is_child_same-is_same-requires g t c κs within =
    let down = descended_slot (g.R.Region.bits c.args.region.now) c.args.slot (g.R.Region.bits c.descend.result) (g.R.Region.answers c.args.region.now) (g.R.Region.answers c.descend.result) c.descend.ensures.bits c.descend.ensures.answers in
    let less : 2 * g.R.Region.bits c.descend.result + 1 < 2 * g.R.Region.bits c.args.region.now = omega (arith, down.0, c.requires.fits) in
    (search (rules, less), (search rules, (omega (arith, c.below.ensures.bits, c.requires.way, down.0), (c.requires.nodes_sized, (c.requires.leaves_sized, node_below c.args.way.now c.below.result c.args.nodes.now.cells c.args.leaves.now.cells c.args.child.now c.args.slot (g.R.Region.bits c.args.region.now) (g.R.Region.bits c.descend.result) (g.R.Region.answers c.args.region.now) (g.R.Region.answers c.descend.result) c.below.ensures.prefix c.below.ensures.bits c.requires.way c.requires.fits down.0 down.1 c.requires.child)))))

pub is_child_same-returns : goal.is_child_same-returns
is_child_same-returns g t c = record {
  alike = λ k N L h s.
      let down = descended_slot (g.R.Region.bits c.args.region.now) c.args.slot (g.R.Region.bits c.descend.result) (g.R.Region.answers c.args.region.now) (g.R.Region.answers c.descend.result) c.descend.ensures.bits c.descend.ensures.answers in
      let tells = c.is_same.ensures.alike k N L h (subst (λ (b : ℕ). StandsIn k c.args.nodes.now.cells N c.args.leaves.now.cells L c.args.child.now b h) (sym down.0) s) in
      subst (λ (n : ℕ). IsTrue c.is_same.result ↔ SameAnswers n (slot (g.R.Region.bits c.args.region.now) (g.R.Region.answers c.args.region.now) c.args.slot) h) down.0 (subst (λ (x : List Bool → ℕ). IsTrue c.is_same.result ↔ SameAnswers (g.R.Region.bits c.descend.result) x h) down.1 tells);
}
