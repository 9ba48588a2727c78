use Rattle.std.proofs.Common.{arith, ◌∙◌}
use Rattle.std.proofs.lemmas.List.{take_rest}
use Rattle.std.proofs.lemmas.Grind.{common_steps}
use Rattle.fib_io.proofs.Adds.{adds_more}
use Rattle.fib_io.proofs.write_all.Goals as goal

pub loop-at-preserved : goal.loop-at-preserved
loop-at-preserved g c = record {
  within = grind (arith, common_steps);
  front = adds_more (g.S.Sink.written c.args.sink.now) (g.S.Sink.written c.loop-at.sink) (g.S.Sink.written c.write.new.self) c.args.piece.now _ c.loop-at.at c.in_ok-n.n c.loop-at.invariant.front (take_rest c.args.piece.now c.loop-at.at) c.in_ok-n.ensures.ok;
  kept = c.in_ok-n.ensures.cause.kept ∙ c.loop-at.invariant.kept;
}
