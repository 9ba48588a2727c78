use Rattle.std.proofs.Common.{refl}
use Rattle.poptrie_build.specs.Strides.{mixed, run_start}
use Rattle.poptrie_build.specs.Making.{slot_kind}
use Rattle.poptrie_build.proofs.So_far.{so_far_start, ones_total}
use Rattle.poptrie_build.proofs.making.make_vectors.Goals as goal

pub loop-slot-init : goal.loop-slot-init
loop-slot-init c = so_far_start (slot_kind c.args.kinds.now) (record { vector = 0; leafvec = 0; last = _ }) refl

pub returns-clause-nodes : goal.returns-clause-nodes
returns-clause-nodes c = ones_total c.loop-slot.so_far.vector c.loop-slot.slot (λ u. mixed (slot_kind c.args.kinds.now u)) c.loop-slot.auto.slot-end c.loop-slot-test.false c.loop-slot.invariant.no_nodes c.loop-slot.invariant.nodes

pub returns-clause-leaves : goal.returns-clause-leaves
returns-clause-leaves c = ones_total c.loop-slot.so_far.leafvec c.loop-slot.slot (run_start (slot_kind c.args.kinds.now)) c.loop-slot.auto.slot-end c.loop-slot-test.false c.loop-slot.invariant.no_leaves c.loop-slot.invariant.leaves
