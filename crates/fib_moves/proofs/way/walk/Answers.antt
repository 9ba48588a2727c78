use Rattle.std.proofs.Common.{arith}
use Rattle.table_model.specs.Bits.{bits_of}
use Rattle.table_model.specs.Entries.{of_family}
use Rattle.fib_addr.specs.Views.{prefix_as}
use Rattle.fib_moves.proofs.Ways.{gone_on, gone_all, gone_more, long_enough}
use Rattle.fib_moves.proofs.way.walk.Goals as goal

pub step-way-requires-clause-more : goal.step-way-requires-clause-more
step-way-requires-clause-more c =
    let k = c.args.tree.now in
    let p = c.args.prefix.now in
    let l = c.loop-left in
    gone_more k.family (of_family k.family k.routes) (of_family k.family k.entries) (bits_of p.len c.path_bits-q.result) l.left c.path_bits-q.result l.way
    (long_enough k.family p c.path_bits-q.result c.requires) (λ e. omega (arith, e, c.loop-left-test.true)) l.invariant.gone

pub loop-left-preserved : goal.loop-left-preserved
loop-left-preserved c =
    let k = c.args.tree.now in
    let p = c.args.prefix.now in
    let l = c.loop-left in
    record {
      few = omega (arith, l.invariant.few);
      gone = gone_on k.family (of_family k.family k.routes) (of_family k.family k.entries) (bits_of p.len c.path_bits-q.result) l.left c.path_bits-q.result c.bit_at.result l.way c.step-way.result (λ e. omega (arith, e, c.loop-left-test.true)) c.bit_at.ensures l.invariant.gone c.step-way.ensures;
    }

pub returns : goal.returns
returns c =
    let k = c.args.tree.now in
    let p = c.args.prefix.now in
    let l = c.loop-left in
    gone_all k.family (of_family k.family k.routes) (of_family k.family k.entries) (bits_of p.len c.path_bits-q.result) (prefix_as p).bits l.left c.path_bits-q.result l.way (omega (arith, c.loop-left-test.false)) c.path_bits-q.ensures l.invariant.gone
