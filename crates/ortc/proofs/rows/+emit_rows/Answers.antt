use Rattle.std.proofs.Common.{ap, arith, true, false}
use Rattle.fib_addr.specs.Views.{prefix_as}
use Rattle.table_model.specs.Address.{Prefix}
use Rattle.table_model.specs.Width.{width}
use Rattle.orig_tree.specs.Spots.{spot_answers}
use Rattle.orig_tree.proofs.Telling.{half_longer}
use Rattle.ortc.proofs.Alike.{some_bit}
use Rattle.ortc.proofs.Proving.{handed_leaf, handed_join}
use Rattle.ortc.proofs.rows.+emit_rows.Goals as goal

pub returns-in-Some-clause-takes : goal.returns-in-Some-clause-takes
returns-in-Some-clause-takes g t c =
    let s = c.args.region.now in
    handed_leaf g.S.RowSink.takes (prefix_as c.args.prefix.now) s.bits (spot_answers s) c.in-Some.hop c.args.out.now c.put.new.self c.in-Some.ensures.one c.in_ok-put.ensures.takes

pub returns-then-prefix-width : goal.returns-then-prefix-width
returns-then-prefix-width g t c =
    let s = c.args.region.now in
    absurd (some_bit s.bits (spot_answers s) c.in_default.ensures.more (omega (arith, c.requires.bits, c.if-prefix-width.true, c.width.ensures)))

pub emit_rows-requires : goal.emit_rows-requires
emit_rows-requires g t c = λ κs h. (
  omega (arith, c.half.ensures.bits),
  (h, (omega (arith, c.requires.bits, c.half.ensures.bits, half_longer c.args.prefix.now c.half-2.result false c.half-2.ensures, ap (λ (x : Prefix). width x.family) c.half-2.ensures), c.requires.ready)),
)

pub emit_rows-requires-2 : goal.emit_rows-requires-2
emit_rows-requires-2 g t c = λ κs h. (
  omega (arith, c.half-3.ensures.bits),
  (h, (omega (arith, c.requires.bits, c.half-3.ensures.bits, half_longer c.args.prefix.now c.half-4.result true c.half-4.ensures, ap (λ (x : Prefix). width x.family) c.half-4.ensures), c.in_ok-emit_rows.ensures.ready)),
)

pub returns-clause-takes : goal.returns-clause-takes
returns-clause-takes g t c =
    let s = c.args.region.now in
    handed_join g.S.RowSink.takes g.met.S.RowSink.more c.args.prefix.now c.half-2.result c.half-4.result s c.half.result c.half-3.result c.k.result c.args.out.now c.emit_rows.new.out c.emit_rows-2.new.out c.put-2.new.self
    c.in_default.ensures.more c.k.ensures c.half.ensures.bits c.half.ensures.routes c.half.ensures.hop c.half-3.ensures.bits c.half-3.ensures.routes c.half-3.ensures.hop c.half-2.ensures c.half-4.ensures
    c.in_ok-emit_rows.ensures.takes c.in_ok-emit_rows-2.ensures.takes c.in_ok-put-2.ensures.takes
