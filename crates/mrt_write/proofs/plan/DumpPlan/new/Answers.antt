use Rattle.std.proofs.Common.{map, refl, ap}
use Rattle.fib_prefix.specs.Views.{peer_as}
use Rattle.mrt_write.specs.Saved.{peers_with_candidates}
use Rattle.mrt_write.proofs.plan.DumpPlan.new.Goals as goal

pub returns-clause-knows : goal.returns-clause-knows
unfolding peers_with_candidates
returns-clause-knows c = record { peers = ap (map peer_as) c.new.ensures.empty; ids = refl; long = refl }
