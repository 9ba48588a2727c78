use Rattle.std.proofs.Common.{arith}
use Rattle.std.proofs.lemmas.Grind.{common_steps}
use Rattle.fib_addr.proofs.ipv6.longest_zero_run.Goals as goal

pub loop-at-init : goal.loop-at-init
loop-at-init c = grind (arith, common_steps)

pub loop-at-preserved-then-run-longest : goal.loop-at-preserved-then-run-longest
loop-at-preserved-then-run-longest c = grind (arith, common_steps)

pub loop-at-preserved : goal.loop-at-preserved
loop-at-preserved c = grind (arith, common_steps)
