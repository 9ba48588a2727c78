use Rattle.std.proofs.Common.{ap}
use Rattle.adj_rib_in.specs.Flat.{paths_on}
use Rattle.adj_rib_in.proofs.flat.Flat.new.Goals as goal

pub returns-clause-paths : goal.returns-clause-paths
unfolding paths_on
returns-clause-paths c = ap (paths_on _ _ _) c.new.ensures.slots
