use Rattle.std.proofs.Common.{arith, length}
use Rattle.adj_rib_in.proofs.Runs.{in_place}
use Rattle.adj_rib_in.proofs.Flats.{none_at_all}
use Rattle.adj_rib_in.proofs.flat.Flat.slot_of.Goals as goal

pub slot_in-requires : goal.slot_in-requires
slot_in-requires c = in_place c.args.self.now.rows.items c.args.row (length c.args.self.now.rows.slots) c.run_of-run.result.from c.run_of-run.result.to c.loop-i.i c.run_of-run.ensures (omega (arith, c.loop-i.auto.i)) (omega (arith, c.loop-i-test.true))

pub returns : goal.returns
returns c = none_at_all c.args.self.now c.args.row c.args.peer c.args.id c.run_of-run.result.from c.run_of-run.result.to c.loop-i.i c.requires c.run_of-run.ensures (omega (arith, c.loop-i-test.false)) c.loop-i.invariant
