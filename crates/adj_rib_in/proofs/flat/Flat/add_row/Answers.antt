use Rattle.std.proofs.Common.{arith, length}
use Rattle.adj_rib_in.proofs.Runs.{in_place}
use Rattle.adj_rib_in.proofs.Gathers.{gather_starts, gather_step, gather_ends}
use Rattle.adj_rib_in.proofs.flat.Flat.add_row.Goals as goal

pub loop-i-init : goal.loop-i-init
loop-i-init c = gather_starts c.args.self.now c.args.prefix.now c.args.row c.run_of-run.result.from c.run_of-run.result.to c.args.ways.now c.requires.flat c.run_of-run.ensures

pub add_at-requires : goal.add_at-requires
add_at-requires c = in_place c.args.self.now.rows.items c.args.row (length c.args.self.now.rows.slots) c.run_of-run.result.from c.run_of-run.result.to c.loop-i.i c.run_of-run.ensures (omega (arith, c.loop-i.auto.i)) (omega (arith, c.loop-i-test.true))

pub loop-i-preserved : goal.loop-i-preserved
loop-i-preserved c = gather_step c.args.self.now c.args.prefix.now c.args.row c.loop-i.i c.args.ways.now c.loop-i.ways c.add_at.new.ways c.requires.flat c.requires.row c.in_ok-add_at.ensures c.loop-i.invariant

pub returns : goal.returns
returns c = gather_ends c.args.self.now c.args.prefix.now c.args.row c.run_of-run.result.from c.run_of-run.result.to c.loop-i.i c.args.ways.now c.loop-i.ways c.requires.flat c.requires.row c.run_of-run.ensures (omega (arith, c.loop-i-test.false)) c.loop-i.invariant
