use Rattle.std.proofs.Common.{ap, arith, true, false}
use Rattle.table_model.specs.Address.{Prefix}
use Rattle.table_model.specs.Width.{width}
use Rattle.orig_tree.specs.Spots.{spot_answers}
use Rattle.orig_tree.proofs.Telling.{half_longer}
use Rattle.ortc.proofs.Alike.{some_bit}
use Rattle.ortc.proofs.Falling.{handed_leaf, handed_join}
use Rattle.ortc.proofs.Visiting.{visited, visited_low}
use Rattle.ortc.proofs.down.+descend.Goals as goal

pub returns-in-Some-clause-takes : goal.returns-in-Some-clause-takes
returns-in-Some-clause-takes g t c =
    let s = c.args.region.now in
    handed_leaf g.S.EntrySink.takes c.args.prefix.now s.bits (spot_answers s) s.entries c.in-Some.hop c.args.inherited c.leaf_hop.result c.args.out.now c.emit_entry.new.out c.in-Some.ensures.one c.leaf_hop.ensures c.in_ok-emit_entry.ensures.takes

pub returns-then-prefix-width-clause-takes : goal.returns-then-prefix-width-clause-takes
returns-then-prefix-width-clause-takes g t c =
    let s = c.args.region.now in
    absurd (some_bit s.bits (spot_answers s) c.in_default.ensures.more (omega (arith, c.requires.bits, c.if-prefix-width.true, c.width.ensures)))

pub descend-requires : goal.descend-requires
descend-requires g t c = λ κs h. (
  omega (arith, c.half.ensures.bits),
  (h.0, (h.1, (omega (arith, c.requires.bits, c.half.ensures.bits, half_longer c.args.prefix.now c.half-2.result false c.half-2.ensures, ap (λ (x : Prefix). width x.family) c.half-2.ensures), c.in_ok-emit_entry-2.ensures.ready))),
)

pub descend-requires-2 : goal.descend-requires-2
descend-requires-2 g t c = λ κs h. (
  omega (arith, c.half-3.ensures.bits),
  (h.0, (h.1, (omega (arith, c.requires.bits, c.half-3.ensures.bits, half_longer c.args.prefix.now c.half-4.result true c.half-4.ensures, ap (λ (x : Prefix). width x.family) c.half-4.ensures), c.in_ok-descend.ensures.ready))),
)

pub returns-clause-takes : goal.returns-clause-takes
returns-clause-takes g t c =
    let s = c.args.region.now in
    handed_join g.S.EntrySink.takes g.met.S.EntrySink.more c.args.prefix.now c.half-2.result c.half-4.result s c.half.result c.half-3.result c.args.inherited c.below-hop.result c.own_hop-own.result
    c.args.out.now c.emit_entry-2.new.out c.descend.new.out c.descend-2.new.out
    (some_bit s.bits (spot_answers s) c.in_default.ensures.more) c.own_hop-own.ensures c.below-hop.ensures
    c.half.ensures.bits c.half.ensures.routes c.half.ensures.entries c.half.ensures.hop c.half-3.ensures.bits c.half-3.ensures.routes c.half-3.ensures.entries c.half-3.ensures.hop
    c.half-2.ensures c.half-4.ensures c.in_ok-emit_entry-2.ensures.takes c.in_ok-descend.ensures.takes c.in_ok-descend-2.ensures.takes

pub returns-in_err-descend-clause-steps : goal.returns-in_err-descend-clause-steps
returns-in_err-descend-clause-steps g t c = visited_low c.args.region.now.nodes c.half.result.nodes (g.C.Counter.count c.args.steps.now) (g.C.Counter.count c.tick.new.self) (g.C.Counter.count c.descend.new.steps) c.in_default.ensures.node c.half.ensures.nodes c.tick.ensures c.descend.ensures.steps

pub returns-in_err-descend-2-clause-steps : goal.returns-in_err-descend-2-clause-steps
returns-in_err-descend-2-clause-steps g t c = visited c.args.region.now.nodes c.half.result.nodes c.half-3.result.nodes (g.C.Counter.count c.args.steps.now) (g.C.Counter.count c.tick.new.self) (g.C.Counter.count c.descend.new.steps) (g.C.Counter.count c.descend-2.new.steps) c.in_default.ensures.node c.half.ensures.nodes c.half-3.ensures.nodes
    c.tick.ensures c.descend.ensures.steps c.descend-2.ensures.steps

pub returns-clause-steps : goal.returns-clause-steps
returns-clause-steps g t c = visited c.args.region.now.nodes c.half.result.nodes c.half-3.result.nodes (g.C.Counter.count c.args.steps.now) (g.C.Counter.count c.tick.new.self) (g.C.Counter.count c.descend.new.steps) (g.C.Counter.count c.descend-2.new.steps) c.in_default.ensures.node c.half.ensures.nodes c.half-3.ensures.nodes
    c.tick.ensures c.descend.ensures.steps c.descend-2.ensures.steps
