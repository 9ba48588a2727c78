use Rattle.std.proofs.Common.{rules, suc, ◌≡◌, ◌+◌, ◌/◌, ◌^◌, ◌<◌, ◌∙◌, arith}
use Rattle.poptrie_build.proofs.Walk.{default_same}
use Rattle.poptrie_build.proofs.Directing.{small_len}
use Rattle.poptrie_set.proofs.Key_bits.{slot_is}
use Rattle.poptrie_set.proofs.Visit.{reads_place, leaf_read, node_read}
use Rattle.poptrie_set.proofs.reading.visit.Goals as goal

pub read-at-requires : goal.read-at-requires
read-at-requires c =
    let can = c.requires.can.2 in
    (reads_place can.0 c.args.nodes.now.cells can.2 c.args.leaves.now.cells can.3 c.args.node c.requires.can.0 can.1 can.4).1

pub overflow_add-at : goal.overflow_add-at
overflow_add-at c =
    let can = c.requires.can.2 in
    let e = leaf_read can.0 c.args.nodes.now.cells can.2 c.args.leaves.now.cells can.3 c.args.node c.requires.can.0 can.1 c.read-at.result c.args.nodes.now.fill (c.args.key / 2 ^ 122) c.rank.result (slot_is c.args.key c.requires.can.0 c.ranges.key.fits c.requires.can.1) c.read-at.ensures can.4 c.if-at-slot-eq0.true c.rank.ensures in
    let m = small_len c.args.leaves.now c.requires.leaves_sized in
    let h : c.read-at.result.base0 + c.rank.result < 4294967296 = omega (arith, e.2.0, m) in
    search (rules, h)

pub overflow_sub-at : goal.overflow_sub-at
overflow_sub-at c =
    let can = c.requires.can.2 in
    let e = leaf_read can.0 c.args.nodes.now.cells can.2 c.args.leaves.now.cells can.3 c.args.node c.requires.can.0 can.1 c.read-at.result c.args.nodes.now.fill (c.args.key / 2 ^ 122) c.rank.result (slot_is c.args.key c.requires.can.0 c.ranges.key.fits c.requires.can.1) c.read-at.ensures can.4 c.if-at-slot-eq0.true c.rank.ensures in
    omega (arith, e.1)

pub read-hop-requires : goal.read-hop-requires
read-hop-requires c =
    let can = c.requires.can.2 in
    (leaf_read can.0 c.args.nodes.now.cells can.2 c.args.leaves.now.cells can.3 c.args.node c.requires.can.0 can.1 c.read-at.result c.args.nodes.now.fill (c.args.key / 2 ^ 122) c.rank.result (slot_is c.args.key c.requires.can.0 c.ranges.key.fits c.requires.can.1) c.read-at.ensures can.4 c.if-at-slot-eq0.true c.rank.ensures).2.0

pub returns-then-at-slot-eq0 : goal.returns-then-at-slot-eq0
returns-then-at-slot-eq0 c = record {
  leads = λ bits left h N L k r.
      let e = leaf_read left c.args.nodes.now.cells N c.args.leaves.now.cells L c.args.node bits h c.read-at.result c.args.nodes.now.fill (c.args.key / 2 ^ 122) c.rank.result (slot_is c.args.key bits c.ranges.key.fits k) c.read-at.ensures r c.if-at-slot-eq0.true c.rank.ensures in
      (e.0, c.read-hop.ensures ∙ (default_same c.args.leaves.now.cells _ c.args.leaves.now.fill 0 e.2.0 ∙ e.2.1));
}

pub overflow_add-result : goal.overflow_add-result
overflow_add-result c =
    let can = c.requires.can.2 in
    let e = node_read can.0 c.args.nodes.now.cells can.2 c.args.leaves.now.cells can.3 c.args.node c.requires.can.0 can.1 c.read-at.result c.args.nodes.now.fill (c.args.key / 2 ^ 122) c.rank-2.result (slot_is c.args.key c.requires.can.0 c.ranges.key.fits c.requires.can.1) c.read-at.ensures can.4 c.if-at-slot-eq0.false c.rank-2.ensures in
    let m = small_len c.args.nodes.now c.requires.nodes_sized in
    let h : c.read-at.result.base1 + c.rank-2.result < 4294967296 = omega (arith, e.3, m) in
    search (rules, h)

pub overflow_sub-result : goal.overflow_sub-result
overflow_sub-result c =
    let can = c.requires.can.2 in
    let e = node_read can.0 c.args.nodes.now.cells can.2 c.args.leaves.now.cells can.3 c.args.node c.requires.can.0 can.1 c.read-at.result c.args.nodes.now.fill (c.args.key / 2 ^ 122) c.rank-2.result (slot_is c.args.key c.requires.can.0 c.ranges.key.fits c.requires.can.1) c.read-at.ensures can.4 c.if-at-slot-eq0.false c.rank-2.ensures in
    omega (arith, e.2)

pub returns : goal.returns
returns c = record {
  leads = λ bits left h N L k r.
      let next : c.args.stride + 1 ≡ suc c.args.stride = omega arith in
      let e = node_read left c.args.nodes.now.cells N c.args.leaves.now.cells L c.args.node bits h c.read-at.result c.args.nodes.now.fill (c.args.key / 2 ^ 122) c.rank-2.result (slot_is c.args.key bits c.ranges.key.fits k) c.read-at.ensures r c.if-at-slot-eq0.false c.rank-2.ensures in
      (next, (e.0, e.1, e.4));
}
