use Rattle.adj_rib_in.proofs.BestSlots.{Keeps, keeps_start, keeps_step, keeps_end, keeps_none}
use Rattle.adj_rib_in.proofs.Runs.{in_place}
use Rattle.std.proofs.Common.{arith, length, subst}
use Rattle.adj_rib_in.proofs.flat.Flat.best_in.Goals as goal

pub loop-i-init : goal.loop-i-init
loop-i-init c = keeps_start c.args.self.now c.args.prefix.now c.args.row c.run_of-run.result.from c.run_of-run.result.to c.args.but c.args.other c.requires.flat c.requires.row c.run_of-run.ensures

pub best_at-best-requires-clause-live : goal.best_at-best-requires-clause-live
best_at-best-requires-clause-live c = c.loop-i.invariant.live

pub best_at-best-requires-clause-run : goal.best_at-best-requires-clause-run
best_at-best-requires-clause-run c = in_place c.args.self.now.rows.items c.args.row (length c.args.self.now.rows.slots) c.run_of-run.result.from c.run_of-run.result.to c.loop-i.i c.run_of-run.ensures (omega (arith, c.loop-i.auto.i)) (omega (arith, c.loop-i-test.true))

pub loop-i-preserved : goal.loop-i-preserved
loop-i-preserved c = keeps_step c.args.self.now c.args.prefix.now c.args.row c.loop-i.i c.args.but c.args.other c.loop-i.best c.best_at-best.result c.requires.flat c.requires.row c.best_at-best.ensures.live c.best_at-best.ensures.best c.loop-i.invariant

pub returns-in-Some : goal.returns-in-Some
returns-in-Some c = keeps_end c.args.self.now c.args.prefix.now c.args.row c.run_of-run.result.from c.run_of-run.result.to c.loop-i.i c.args.but c.args.other c.in-Some.slot c.better.result c.requires.flat c.requires.row c.run_of-run.ensures (omega (arith, c.loop-i-test.false)) (subst (Keeps c.args.self.now c.args.prefix.now c.args.row c.args.but c.args.other c.loop-i.i) c.in-Some.is c.loop-i.invariant) c.better.ensures

pub returns-in-None : goal.returns-in-None
returns-in-None c = keeps_none c.args.self.now c.args.prefix.now c.args.row c.run_of-run.result.from c.run_of-run.result.to c.loop-i.i c.args.but c.args.other c.requires.flat c.requires.row c.run_of-run.ensures (omega (arith, c.loop-i-test.false)) (subst (Keeps c.args.self.now c.args.prefix.now c.args.row c.args.but c.args.other c.loop-i.i) c.in-None.is c.loop-i.invariant)
